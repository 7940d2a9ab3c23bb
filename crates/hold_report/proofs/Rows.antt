-- The rows of a table, corner by corner.
use Rattle.std.proofs.Common.{◌≡◌, ℕ, zero, suc, ◌+◌, ◌<◌, ◌≤◌, List, [], ◌∷◌, ◌++◌, length, drop, refl, ap, sym, ◌∙◌, subst, arith, append_assoc}
use Rattle.std.specs.Prelude.{Option, Some, slice_get}
use Rattle.std.proofs.lemmas.List.{append-nil, drop_all}
use Rattle.std.proofs.lemmas.Option.{get_or_from_slice_get}
use Rattle.hold_base.proofs.Lists.{drop-here}
use Rattle.std.specs.List.{AllZip}
use Rattle.hold_base.specs.declared.time.Side.TheVariants.{Early, Late}
use Rattle.hold_graph.specs.Sums.{no_buffers}
use Rattle.hold_graph.specs.declared.problem.Problem.{Problem}
use Rattle.hold_graph.specs.declared.problem.Spans.{Spans}
use Rattle.hold_job.specs.declared.corner.Corner.{Corner}
use Rattle.hold_netlist.specs.Design.{Design}
use Rattle.hold_timing.specs.declared.end.End.{End}
use Rattle.hold_report.specs.Table.{WorstEnds, rows_text, table_text, AreWorstEnds, IsTable}
use Rattle.hold_report.proofs.OneEnd.{IsWorstEnd-one}

-- the rows of some of a problem's corners, which have these names and these spans
pub record AreRowsOf (d : Design) (problem : Problem) (corners : List Corner) (spans : List Spans) (text : List ℕ) : Type 0 where
  pub ends : List WorstEnds
  pub worst : AllZip (AreWorstEnds problem) spans ends
  pub rows : text ≡ table_text d corners ends

-- so many corners are done: with the rows of the others behind it, the text is the table
abbrev pub IsTableUpTo : Design → List Corner → Problem → ℕ → List ℕ → Type 0
IsTableUpTo d corners problem done text =
    (rest : List ℕ) → AreRowsOf d problem (drop done corners) (drop done problem.corners) rest → AreRowsOf d problem corners problem.corners (text ++ rest)

rows-none : (d : Design) (problem : Problem) → AreRowsOf d problem [] [] []
rows-none d problem = record { ends = []; worst = tt; rows = refl }

rows-more : (d : Design) (problem : Problem) (corner : Corner) (corners : List Corner) (here : Spans) (spans : List Spans) (ends : WorstEnds) (text : List ℕ) →
    AreWorstEnds problem here ends → AreRowsOf d problem corners spans text → AreRowsOf d problem (corner ∷ corners) (here ∷ spans) (rows_text d corner.name ends ++ text)
rows-more d problem corner corners here spans ends text worst rest = record {
  ends = ends ∷ rest.ends;
  worst = (worst, rest.worst);
  rows = ap (λ more. rows_text d corner.name ends ++ more) rest.rows;
}

spans-there : (spans : List Spans) (k : ℕ) → k < length spans → (here : Spans) × (slice_get spans k ≡ Some here)
spans-there [] k lt = absurd (omega arith)
spans-there (here ∷ spans) zero lt = (here, refl)
spans-there (here ∷ spans) (suc k) lt = spans-there spans k (omega arith)

pub table-more : (d : Design) (corners : List Corner) (problem : Problem) (done : ℕ) (text : List ℕ) (corner : Corner) (ends : WorstEnds) →
    IsTableUpTo d corners problem done text → done < length problem.corners → drop done corners ≡ corner ∷ drop (done + 1) corners →
    ((spans : Spans) → slice_get problem.corners done ≡ Some spans → AreWorstEnds problem spans ends) →
    IsTableUpTo d corners problem (done + 1) (text ++ rows_text d corner.name ends)
table-more d corners problem done text corner ends so_far lt front worst rest more =
    let here = spans-there problem.corners done lt in
    let spans : drop done problem.corners ≡ here.0 ∷ drop (done + 1) problem.corners =
    drop-here problem.corners done here.0 lt (sym (get_or_from_slice_get problem.corners done here.0 here.0 here.1)) in
    let rows = rows-more d problem corner (drop (done + 1) corners) here.0 (drop (done + 1) problem.corners) ends rest (worst here.0 here.1) more in
    let Rows : List Corner → List Spans → Type 0 = λ names times. AreRowsOf d problem names times (rows_text d corner.name ends ++ rest) in
    let behind : Rows (drop done corners) (drop done problem.corners) =
    subst (λ (names : List Corner). Rows names (drop done problem.corners)) (sym front)
    (subst (λ (times : List Spans). Rows (corner ∷ drop (done + 1) corners) times) (sym spans) rows) in
    subst (AreRowsOf d problem corners problem.corners) (sym (append_assoc text (rows_text d corner.name ends) rest)) (so_far (rows_text d corner.name ends ++ rest) behind)

pub table-whole : (d : Design) (corners : List Corner) (problem : Problem) (done : ℕ) (text : List ℕ) →
    IsTableUpTo d corners problem done text → length corners ≤ done → length problem.corners ≤ done → IsTable d corners problem text
table-whole d corners problem done text so_far names times =
    let Rows : List Corner → List Spans → Type 0 = λ cs ss. AreRowsOf d problem cs ss [] in
    let none : Rows (drop done corners) (drop done problem.corners) =
    subst (λ (cs : List Corner). Rows cs (drop done problem.corners)) (sym (drop_all done corners names))
    (subst (λ (ss : List Spans). Rows [] ss) (sym (drop_all done problem.corners times)) (rows-none d problem)) in
    let all : AreRowsOf d problem corners problem.corners text = subst (AreRowsOf d problem corners problem.corners) (append-nil text) (so_far [] none) in
    record { ends = all.ends; worst = all.worst; rows = all.rows }

worst_ends-one : (problem : Problem) (spans : Spans) (a b : WorstEnds) → AreWorstEnds problem spans a → AreWorstEnds problem spans b → a ≡ b
worst_ends-one problem spans a b is_a is_b =
    ap (λ (e : Option End). let ends : WorstEnds = record { early = e; late = a.late } in ends)
    (IsWorstEnd-one Early problem spans no_buffers a.early b.early is_a.early is_b.early)
    ∙ ap (λ (e : Option End). let ends : WorstEnds = record { early = b.early; late = e } in ends)
    (IsWorstEnd-one Late problem spans no_buffers a.late b.late is_a.late is_b.late)

each_worst-one : (problem : Problem) (spans : List Spans) (a b : List WorstEnds) → AllZip (AreWorstEnds problem) spans a → AllZip (AreWorstEnds problem) spans b → a ≡ b
each_worst-one problem [] [] [] is_a is_b = refl
each_worst-one problem [] [] (y ∷ ys) is_a is_b = absurd is_b
each_worst-one problem [] (x ∷ xs) ys is_a is_b = absurd is_a
each_worst-one problem (here ∷ spans) [] ys is_a is_b = absurd is_a
each_worst-one problem (here ∷ spans) (x ∷ xs) [] is_a is_b = absurd is_b
each_worst-one problem (here ∷ spans) (x ∷ xs) (y ∷ ys) is_a is_b =
    ap (λ (e : WorstEnds). e ∷ xs) (worst_ends-one problem here x y is_a.0 is_b.0) ∙ ap (λ (es : List WorstEnds). y ∷ es) (each_worst-one problem spans xs ys is_a.1 is_b.1)

pub IsTable-one : (d : Design) (corners : List Corner) (problem : Problem) (a b : List ℕ) → IsTable d corners problem a → IsTable d corners problem b → a ≡ b
IsTable-one d corners problem a b is_a is_b =
    is_a.rows ∙ ap (table_text d corners) (each_worst-one problem problem.corners is_a.ends is_b.ends is_a.worst is_b.worst) ∙ sym is_b.rows
