use Rattle.std.proofs.Common.{◌≡◌, ap, ◌∙◌, is_some}
use Rattle.hold_netlist.specs.NameTable.{number_of}
use Rattle.hold_netlist.specs.Names.{is_among}
use Rattle.hold_vparse.specs.inner.Index.{place_of}
use Rattle.hold_vparse.specs.inner.Flat.{targets}
use Rattle.hold_vparse.specs.Nets.{names}
use Rattle.hold_vparse.proofs.IndexLemmas.{is_some-place_of}
use Rattle.hold_vparse.proofs.index.Index.has.Goals as goal

pub returns : goal.returns
returns c =
    let at : c.find.result ≡ place_of c.args.name.now (names (targets c.self.inside.idents.items)) =
    c.find.ensures ∙ ap (λ n. number_of n c.self.inside.places) c.bytes.ensures ∙ c.self.invariant.places c.args.name.now in
    c.is_some.ensures ∙ ap is_some at ∙ is_some-place_of c.args.name.now (names (targets c.self.inside.idents.items)) ∙ ap (λ ids. is_among c.args.name.now (names ids)) c.self.view_is
