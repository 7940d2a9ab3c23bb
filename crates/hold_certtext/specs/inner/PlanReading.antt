-- What is read of a plan, line by line.
--
-- PlanSoFar: where the text stands, and the lines that were read. plan_start: when nothing was read.
-- plan_fill stage lines words: what is read with a line of these words. plan_step so_far line: what is read with the line, if it can
--   stand there.
-- plan_so_far draft: what a draft holds.
use Rattle.std.specs.Prelude.{ℕ, ◌+◌, ◌&&◌, Bool, List, [], ◌∷◌, ◌++◌, length, Option, None, Some, codes, if◌then◌else◌}
use Rattle.hold_base.specs.declared.plan.PlanLine.{PlanLine}
use Rattle.hold_certtext.specs.declared.plan_draft.PlanDraft.{PlanDraft}
use Rattle.hold_certtext.specs.declared.plan_draft.PlanStage.{PlanStage}
use Rattle.hold_certtext.specs.declared.plan_draft.PlanStage.TheVariants.{Head, Pads, Whole}
use Rattle.hold_certtext.specs.inner.Parsing.{◌>>=◌, guard, pad_in}
use Rattle.hold_certtext.specs.inner.Words.{words_of, is_word, takes}

pub record PlanSoFar : Type 0 where
  pub stage : PlanStage
  pub lines : List PlanLine

abbrev pub plan_so_far : PlanDraft → PlanSoFar
plan_so_far draft = record { stage = draft.stage; lines = draft.lines.items }

abbrev pub plan_start : PlanSoFar
plan_start = record { stage = Head; lines = [] }

abbrev pub head_in : List PlanLine → Bool × List (List ℕ) → Option PlanSoFar
head_in lines taken = guard (taken.0 && is_word (codes "1") taken.1) (record { stage = Pads; lines = lines })

abbrev pub add_pad : List PlanLine → List (List ℕ) → Option PlanSoFar
add_pad lines words = do
  pad ← pad_in (length lines + 2) words
  Some (record { stage = Pads; lines = lines ++ pad ∷ [] })

abbrev pub pad_or_end : List PlanLine → Bool × List (List ℕ) → Option PlanSoFar
pad_or_end lines taken =
    if taken.0 then add_pad lines taken.1 else guard (is_word (codes "end") taken.1) (record { stage = Whole; lines = lines })

abbrev pub plan_fill : PlanStage → List PlanLine → List (List ℕ) → Option PlanSoFar
plan_fill Head lines words = head_in lines (takes (codes "hold-plan") words)
plan_fill Pads lines words = pad_or_end lines (takes (codes "pad") words)
plan_fill Whole lines words = None

abbrev pub plan_step : PlanSoFar → List ℕ → Option PlanSoFar
plan_step s line = plan_fill s.stage s.lines (words_of line)
