use Rattle.std.proofs.Common.{◌≡◌, ◌≤◌, codes, length}
use Rattle.hold_proof.specs.Closing.{weight_limit}
use Rattle.hold_certtext.specs.inner.Parsing.{path_no, terms_in}
use Rattle.hold_certtext.specs.inner.Words.{left}
use Rattle.hold_certtext.proofs.LoopLemmas.{with_terms}
use Rattle.hold_certtext.proofs.leaf.paths.Given as goal

abbrev pub invariant-loop-bounds : goal.invariant-loop-bounds
invariant-loop-bounds l = record {
  whole : with_terms l.paths.items (terms_in path_no (codes "p") l.bounds (left l.words)) ≡ terms_in path_no (codes "p") l.fn.bounds (left l.fn.words);
  weight : l.bounds.weight ≤ weight_limit;
  limit : l.bounds.limit ≤ l.fn.bounds.limit;
}

abbrev pub decreases-loop-bounds : goal.decreases-loop-bounds
decreases-loop-bounds l = length (left l.words)
