-- `graph::search` meets its contract.
-- Assumes nothing.
use Rattle.search.proofs.Nearing.{seeding, finding, keeping, search-done}
use Rattle.search.proofs.graph.search.Goals as goal

pub seed-requires : goal.seed-requires
seed-requires g c = rw (c.nodes-nodes.ensures, c.start.ensures) (seeding (g.G.Graph.searchable c.args.graph.now) c.requires)

pub settle_all-best-requires : goal.settle_all-best-requires
settle_all-best-requires g c =
    finding (g.G.Graph.searchable c.args.graph.now) c.requires (rw (c.nodes-nodes.ensures, c.start.ensures) at c.seed.ensures)

pub keep_near-requires : goal.keep_near-requires
keep_near-requires g c =
    rw (c.nodes-nodes.ensures) (keeping (g.G.Graph.searchable c.args.graph.now) c.requires (rw (c.nodes-nodes.ensures, c.start.ensures) at c.seed.ensures)
    c.settle_all-best.ensures)

pub returns : goal.returns
returns g c =
    search-done (g.G.Graph.searchable c.args.graph.now) c.requires (rw (c.nodes-nodes.ensures, c.start.ensures) at c.seed.ensures)
    c.settle_all-best.ensures (rw (c.nodes-nodes.ensures) at c.keep_near.ensures)
