-- The array of images: eight are enough, and one that was found stays.
-- Assumes nothing.
use Rattle.std.specs.Prelude.{◌≡◌, ◌≢◌, ◌⊎◌, List, ℕ, ◌+◌, ◌*◌, ◌/◌, ◌%◌, ◌<◌, get_or, set, replicate}
use Rattle.std.proofs.Common.{sym, subst, subst₂, ◌∙◌, inl, inr, arith, length-set, get_or-set_same, get_or-set_other}
use Rattle.std.proofs.Math.Decide.{ℕ_discrete}
use Rattle.std.proofs.lemmas.List.{length-replicate, get_or-replicate}
use Rattle.table.specs.Meaning.{named_timers}
use Rattle.space.specs.Images.{no_image, Images, ImageDone}

-- Only the three low bits of a byte name timers.
high_bit : (byte : ℕ) → byte % 8 / 4 % 2 ≡ byte / 4 % 2
high_bit byte = let quarters : byte / 4 ≡ 2 * (byte / 8) + byte % 8 / 4 = omega arith in omega (arith, quarters)

pub low_bits : (byte : ℕ) → named_timers (byte % 8) ≡ named_timers byte
low_bits byte =
    let zero : byte % 8 / 1 % 2 ≡ byte / 1 % 2 = omega arith in
    let one : byte % 8 / 2 % 2 ≡ byte / 2 % 2 = omega arith in
    let two : byte % 8 / 4 % 2 ≡ byte / 4 % 2 = high_bit byte in
    rw (zero, one, two)

-- At first there is none.
pub images-none : (P : List ℕ → ℕ → Type 0) → Images P (replicate 8 no_image)
images-none P = record { sized = length-replicate 8 no_image; each = λ k l. inl (get_or-replicate 8 k no_image 0 l) }

-- What stands in the array at the place of a byte is its image, if it is one, and stays; or it becomes the image.
module _ {P : List ℕ → ℕ → Type 0} {images : List ℕ} (i : Images P images) (byte : ℕ) (images' : List ℕ) where
  pub image-kept : get_or images (byte % 8) 0 ≢ no_image → images' ≡ images → ImageDone P byte images' (get_or images' (byte % 8) 0)
  image-kept known same = rw same (record { is = at (i.each (byte % 8) (omega arith)); images = i })
    where
      at : (get_or images (byte % 8) 0 ≡ no_image) ⊎ P (named_timers (byte % 8)) (get_or images (byte % 8) 0) → P (named_timers byte) (get_or images (byte % 8) 0)
      at (inl q) = absurd (known q)
      at (inr x) = subst (λ (xs : List ℕ). P xs (get_or images (byte % 8) 0)) (low_bits byte) x

  pub image-stored :
      (v : ℕ) → P (named_timers byte) v → images' ≡ set images (byte % 8) v → ImageDone P byte images' (get_or images' (byte % 8) 0)
  image-stored v is stored = rw stored (record {
    is = subst (P (named_timers byte)) (sym here) is;
    images = record { sized = length-set images (byte % 8) v ∙ i.sized; each = λ k l. at k l (ℕ_discrete k (byte % 8)) };
  })
    where
      here : get_or (set images (byte % 8) v) (byte % 8) 0 ≡ v
      here = get_or-set_same images (byte % 8) v 0 (omega (arith, i.sized))

      at :
          (k : ℕ) → k < 8 → Dec (k ≡ byte % 8)
          → (get_or (set images (byte % 8) v) k 0 ≡ no_image) ⊎ P (named_timers k) (get_or (set images (byte % 8) v) k 0)
      at k l (yes q) = inr (rw q (subst₂ P (sym (low_bits byte)) (sym here) is))
      at k l (no n) =
          subst (λ (x : ℕ). (x ≡ no_image) ⊎ P (named_timers k) x) (sym (get_or-set_other images (byte % 8) k v 0 n)) (i.each k l)
