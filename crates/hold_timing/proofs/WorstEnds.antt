-- The worst end of the checked paths, capture by capture.
use Rattle.std.proofs.Common.{◌≡◌, ℕ, ◌+◌, ◌<◌, ◌≤◌, List, [], ◌∷◌, length, refl, ap, sym, ◌∙◌, arith, ◌⊎◌, inl, inr, subst}
use Rattle.std.specs.Prelude.{Option, Some, None, option_map, ℤ, pos, ◌≤ℤ◌, ◌<ℤ◌, slice_get, Contains}
use Rattle.std.proofs.lemmas.Bool.{cases_eq}
use Rattle.std.proofs.lemmas.Int.{ints}
use Rattle.std.proofs.lemmas.Option.{same_Some, none-some, slice_get_within, slice_get_read, get_or_from_slice_get}
use Rattle.hold_base.specs.declared.number.PinNo.{PinNo}
use Rattle.hold_base.specs.declared.time.Side.{Side}
use Rattle.hold_base.specs.declared.time.Side.TheVariants.{Early, Late}
use Rattle.hold_graph.specs.declared.graph.Parts.{Parts}
use Rattle.hold_graph.specs.declared.problem.Spans.{Spans}
use Rattle.hold_graph.specs.declared.problem.Problem.{Problem}
use Rattle.hold_graph.specs.Path.{IsCheckedPath, end_pin, last_pin}
use Rattle.hold_graph.specs.Sums.{Buffers}
use Rattle.hold_graph.specs.Met.{excess}
use Rattle.hold_timing.specs.declared.end.End.{End}
use Rattle.hold_timing.specs.Ends.{GoesBefore, IsBefore, end_of_path, IsWorstEnd, EndsAt}
use Rattle.hold_timing.specs.Worst.{IsAsBad, IsPathTo, IsWorstOf, IsSlackAt}
use Rattle.hold_timing.specs.inner.Search.{end_at, IsWorstAmong, IsMetAt, IsMissedAt}
use Rattle.hold_timing.proofs.Slacks.{checked_to, to_checked}

pub among_none : (side : Side) (problem : Problem) (spans : Spans) (buffers : Buffers) → IsWorstAmong side problem spans buffers 0 None
among_none side problem spans buffers = record {
  attained = λ end is. absurd (none-some end is);
  bound = λ path checked j lt at. absurd (omega arith);
}

end_at-some : (capture : PinNo) (slack : Option ℤ) (end : End) → end_at capture slack ≡ Some end →
    (least : ℤ) × (slack ≡ Some least) × (record { capture = capture; slack = least } ≡ end)
end_at-some capture None end is = absurd (none-some end is)
end_at-some capture (Some least) end is = (least, refl, same_Some _ _ is)

-- where a path to a pin ends
pub end_of-path_to : (parts : Parts) (pin : PinNo) (path : List PinNo) → IsPathTo parts pin path → end_pin path ≡ pin
end_of-path_to parts pin [] h = absurd h.0
end_of-path_to parts pin (a ∷ rest) h = h.0.2

before-end_at : (pin : PinNo) (slack : Option ℤ) (end : End) → pin ≡ end.capture → IsAsBad Early slack end.slack → IsBefore (end_at pin slack) end
before-end_at pin None end same h = h
before-end_at pin (Some least) end same h = (h, λ e. let pins = ap (λ (p : PinNo). p.0) same in omega arith)

-- the capture of a turn
pub among_more : (side : Side) (problem : Problem) (spans : Spans) (buffers : Buffers) (k : ℕ) (pin : PinNo) (found new : Option End) (slack : Option ℤ) →
    slice_get problem.graph.captures k ≡ Some pin → IsWorstAmong side problem spans buffers k found → IsSlackAt side problem spans buffers pin slack →
    ((new ≡ found) ⊎ (new ≡ end_at pin slack)) → ((end : End) → IsBefore found end → IsBefore new end) → ((end : End) → IsBefore (end_at pin slack) end → IsBefore new end) →
    IsWorstAmong side problem spans buffers (k + 1) new
among_more side problem spans buffers k pin found new slack at among worst one left right = record {
  attained = λ end is. by_case end is one;
  bound = λ path checked j lt is. by_place path checked j lt is (cases_eq j k);
}
  where
    captured : Contains problem.graph.captures pin
    captured = (k, slice_get_within problem.graph.captures k pin at, get_or_from_slice_get problem.graph.captures k pin pin at)

    by_case : (end : End) → new ≡ Some end → ((new ≡ found) ⊎ (new ≡ end_at pin slack)) →
        (path : List PinNo) × IsCheckedPath problem.graph path × (end_of_path side problem spans buffers path ≡ end)
    by_case end is (inl e) = among.attained end (sym e ∙ is)
    by_case end is (inr e) =
        let some = end_at-some pin slack end (sym e ∙ is) in
        let path = worst.attained some.0 some.1 in (
          path.0,
          to_checked problem.graph pin path.0 captured path.1,
          ap (λ (p : PinNo). let x : End = record { capture = p; slack = excess side problem spans buffers path.0 } in x) (end_of-path_to problem.graph pin path.0 path.1)
              ∙ ap (λ (s : ℤ). let x : End = record { capture = pin; slack = s } in x) path.2 ∙ some.2,
        )

    by_place : (path : List PinNo) → IsCheckedPath problem.graph path → (j : ℕ) → j < k + 1 → slice_get problem.graph.captures j ≡ Some (end_pin path) →
        ((j ≡ k) ⊎ (j ≡ k → ⊥)) → IsBefore new (end_of_path side problem spans buffers path)
    by_place path checked j lt is (inl same) =
        let pins : pin ≡ end_pin path = same_Some _ _ (sym at ∙ ap (slice_get problem.graph.captures) (sym same) ∙ is) in
        let To : PinNo → Type 0 = λ p. IsPathTo problem.graph p path in
        right (end_of_path side problem spans buffers path)
        (before-end_at pin slack (end_of_path side problem spans buffers path) pins
        (worst.bound path (subst To (sym pins) (checked_to problem.graph path checked).1)))
    by_place path checked j lt is (inr other) =
        left (end_of_path side problem spans buffers path) (among.bound path checked j (omega (arith, other)) is)

-- after the last capture
pub among_all : (side : Side) (problem : Problem) (spans : Spans) (buffers : Buffers) (k : ℕ) (found : Option End) → length problem.graph.captures ≤ k →
    IsWorstAmong side problem spans buffers k found → IsWorstEnd side problem spans buffers found
among_all side problem spans buffers k found all among = record {
  attained = among.attained;
  bound = λ path checked.
      let has : Contains problem.graph.captures (end_pin path) = (checked_to problem.graph path checked).0 in
      among.bound path checked has.0 (let lt = has.1 in omega arith)
      (slice_get_read problem.graph.captures (length problem.graph.captures) has.0 (end_pin path) refl has.1 (sym has.2));
}

slack-some : (found : Option End) (least : ℤ) → option_map (λ (end : End). end.slack) found ≡ Some least → (end : End) × (found ≡ Some end) × (end.slack ≡ least)
slack-some None least is = absurd (none-some least is)
slack-some (Some end) least is = (end, refl, same_Some _ _ is)

slack-before : (found : Option End) (end : End) → IsBefore found end → IsAsBad Early (option_map (λ (e : End). e.slack) found) end.slack
slack-before None end h = h
slack-before (Some e) end h = h.0

-- the slack of the worst end is the least excess
pub worst_end-slack : (side : Side) (problem : Problem) (spans : Spans) (buffers : Buffers) (found : Option End) → IsWorstEnd side problem spans buffers found →
    IsWorstOf Early (IsCheckedPath problem.graph) (excess side problem spans buffers) (option_map (λ (end : End). end.slack) found)
worst_end-slack side problem spans buffers found worst = record {
  attained = λ least is.
      let some = slack-some found least is in
      let path = worst.attained some.0 some.1 in
      (path.0, path.1, ap (λ (end : End). end.slack) path.2 ∙ some.2);
  bound = λ path checked. slack-before found (end_of_path side problem spans buffers path) (worst.bound path checked);
}

-- a worst end whose slack is below 0 is one of a path that misses, and where it isn't none misses
pub worst_end-missed : (side : Side) (problem : Problem) (spans : Spans) (buffers : Buffers) (found : Option End) (end : End) → IsWorstEnd side problem spans buffers found →
    found ≡ Some end → end.slack <ℤ pos 0 → IsMissedAt side problem spans buffers
worst_end-missed side problem spans buffers found end worst is below =
    let path = worst.attained end is in
    let e : excess side problem spans buffers path.0 ≡ end.slack = ap (λ (x : End). x.slack) path.2 in
    (path.0, path.1, omega (arith, ints, e, below))

-- a checked path ends somewhere, and a pin at which one ends is a capture
pub ends_at-path : (parts : Parts) (capture : PinNo) → EndsAt parts capture → (path : List PinNo) × IsPathTo parts capture path
ends_at-path parts capture h = (h.0, let To : PinNo → Type 0 = λ p. IsPathTo parts p h.0 in subst To h.2 (checked_to parts h.0 h.1).1)

pub ends_at-capture : (parts : Parts) (capture : PinNo) → EndsAt parts capture → Contains parts.captures capture
ends_at-capture parts capture h = subst (Contains parts.captures) h.2 (checked_to parts h.0 h.1).0
