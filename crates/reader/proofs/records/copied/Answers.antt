-- `reader::records::copied` meets its contract. Assumes nothing.
use Rattle.reader.proofs.Giving.{known}
use Rattle.reader.proofs.Copying.{copied}
use Rattle.reader.proofs.records.copied.Goals as goal

pub returns : goal.returns
returns c = copied _ _ (known c.in_ok-byte.ensures.gives)
