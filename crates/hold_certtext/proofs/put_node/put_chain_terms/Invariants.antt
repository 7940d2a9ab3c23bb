use Rattle.std.proofs.Common.{◌≡◌, ◌++◌, drop, take, All}
use Rattle.std.specs.Prelude.{flat_map}
use Rattle.hold_certtext.specs.Lines.{after_space}
use Rattle.hold_certtext.specs.CertificateText.{chain_words}
use Rattle.hold_certtext.specs.CertificateText.{IsChainTermInRange}
use Rattle.hold_certtext.proofs.put_node.put_chain_terms.Given as goal

abbrev pub invariant-loop-term : goal.invariant-loop-term
invariant-loop-term l = record {
  text : l.out.items ++ flat_map after_space (flat_map chain_words (drop l.term-index l.terms)) ≡ l.fn.out.items ++ flat_map after_space (flat_map chain_words l.terms);
  range : All IsChainTermInRange (take l.term-index l.terms);
}
