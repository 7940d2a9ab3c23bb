-- The one text of a plan. Numbers are decimal, without leading zeros.
--
-- plan_head_line: the line that every plan begins with. plan_end_line: the one that it ends with.
-- pad_line line: the instance, the pin, the type of the buffers and how many of them.
-- plan_lines lines: the head, a line for each of these, and the end. plan_text lines: these lines, each ended.
-- AreNumbered number lines: the lines have the numbers from this one on, one after another.
-- IsPad line: its three names have at least one byte each, all from 33 to 126, and the count is from 1 to 255.
-- IsPlanOf text lines: the lines are pads, numbered as they stand in the text, which is theirs.
-- IsPlanFaultOf text fault: the fault is a line, the first that can't stand there.
-- IsPlan lines: the lines are those of some plan, all of them.
use Rattle.std.specs.Prelude.{◌≡◌, ℕ, ◌+◌, ◌≤◌, List, [], ◌∷◌, ◌++◌, map, codes, decimal}
use Rattle.std.specs.List.{AllByRecursion}
use Rattle.hold_base.specs.declared.plan.PlanFault.{PlanFault}
use Rattle.hold_base.specs.declared.plan.PlanFault.TheVariants.{Line, NoSite, Doubled, TooMany}
use Rattle.hold_base.specs.declared.plan.PlanLine.{PlanLine}
use Rattle.hold_base.specs.NameBytes.{IsName}
use Rattle.hold_certtext.specs.Lines.{spaced, text_of, IsFirstBad}

abbrev pub plan_head_line : List ℕ
plan_head_line = spaced (codes "hold-plan" ∷ codes "1" ∷ [])

abbrev pub plan_end_line : List ℕ
plan_end_line = spaced (codes "end" ∷ [])

abbrev pub pad_line : PlanLine → List ℕ
pad_line line = spaced (codes "pad" ∷ line.inst ∷ line.pin ∷ line.kind ∷ decimal line.count ∷ [])

abbrev pub plan_lines : List PlanLine → List (List ℕ)
plan_lines lines = plan_head_line ∷ (map pad_line lines ++ plan_end_line ∷ [])

abbrev pub plan_text : List PlanLine → List ℕ
plan_text lines = text_of (plan_lines lines)

abbrev pub AreNumbered : ℕ → List PlanLine → Type 0
AreNumbered number [] = Unit {0}
AreNumbered number (line ∷ lines) = (line.line ≡ number) × AreNumbered (number + 1) lines

pub record IsPad (line : PlanLine) : Type 0 where
  pub inst : IsName line.inst
  pub pin : IsName line.pin
  pub kind : IsName line.kind
  pub some : 1 ≤ line.count
  pub most : line.count ≤ 255

pub record IsPlanOf (text : List ℕ) (lines : List PlanLine) : Type 0 where
  pub numbered : AreNumbered 2 lines
  pub pads : AllByRecursion IsPad lines
  pub is : text ≡ plan_text lines

abbrev pub IsPlan : List (List ℕ) → Type 0
IsPlan all = (lines : List PlanLine) × AreNumbered 2 lines × AllByRecursion IsPad lines × (plan_lines lines ≡ all)

abbrev pub IsPlanFaultOf : List ℕ → PlanFault → Type 0
IsPlanFaultOf text (Line number) = IsFirstBad IsPlan text number
IsPlanFaultOf text (NoSite number) = ⊥
IsPlanFaultOf text (Doubled number) = ⊥
IsPlanFaultOf text (TooMany number) = ⊥
