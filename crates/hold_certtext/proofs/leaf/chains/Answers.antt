use Rattle.std.proofs.Common.{◌≡◌, ◌++◌, [], ◌∷◌, codes, true, ap, ◌∙◌, rules, arith}
use Rattle.hold_certtext.specs.declared.terms.Bounds.{Bounds}
use Rattle.hold_certtext.specs.inner.Parsing.{site_no, terms_in, after}
use Rattle.hold_certtext.specs.inner.Words.{left, takes}
use Rattle.hold_certtext.proofs.LoopLemmas.{with_terms, with_terms-step}
use Rattle.hold_certtext.proofs.leaf.chains.Goals as goal

pub loop-bounds-preserved : goal.loop-bounds-preserved
loop-bounds-preserved c =
    let took : takes (codes "s") (left c.loop-bounds.words) ≡ (true, left c.take.new.self) = search rules in
    let next : c.term.new.self ≡ after c.loop-bounds.bounds (c.in-Some.number, c.in-Some.times) = c.in-Some.ensures.after in
    let step = with_terms-step site_no (codes "s") c.loop-bounds.chains.items c.loop-bounds.bounds (left c.loop-bounds.words) (left c.take.new.self) (left c.term.new.words)
    (c.in-Some.number, c.in-Some.times) took c.in-Some.ensures.value in
    record {
      whole =
          ap (λ items. with_terms items (terms_in site_no (codes "s") c.term.new.self (left c.term.new.words))) c.in_ok-push.ensures.ok
          ∙ ap (λ (b : Bounds). with_terms (c.loop-bounds.chains.items ++ (site_no c.in-Some.number, c.in-Some.times) ∷ []) (terms_in site_no (codes "s") b (left c.term.new.words))) next
          ∙ step ∙ c.loop-bounds.invariant.whole;
      weight = c.in-Some.ensures.weight;
      limit = omega (arith, ap (λ (b : Bounds). b.limit) next);
    }
