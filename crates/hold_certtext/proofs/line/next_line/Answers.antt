use Rattle.std.proofs.Common.{◌++◌, List, ℕ, drop, sym, ap, subst, ◌∙◌}
use Rattle.hold_certtext.specs.Lines.{ended, IsLine}
use Rattle.hold_certtext.proofs.LineLemmas.{line-front, line-alone, line-ended}
use Rattle.hold_certtext.proofs.line.next_line.Goals as goal

pub returns-then-is_empty-clause-none : goal.returns-then-is_empty-clause-none
returns-then-is_empty-clause-none c =
    line-alone c.args.text.now c.split_at.result.1.now c.line_len.result c.line_len.ensures.value (sym c.split_at.ensures.back) (sym c.if-is_empty.ensures)

pub returns-clause-cut : goal.returns-clause-cut
returns-clause-cut c =
    line-ended c.args.text.now c.split_at.result.1.now c.line_len.result c.line_len.ensures.value (sym c.split_at.ensures.back) (sym c.if-is_empty.ensures)
    ∙ ap (λ (front : List ℕ). ended front ++ drop 1 c.split_at.result.1.now) (sym c.split_at.ensures.front)
    ∙ ap (λ (behind : List ℕ). ended c.split_at.result.0.now ++ behind) (sym c.split_at-2.ensures.back)

pub returns-clause-line : goal.returns-clause-line
returns-clause-line c =
    subst IsLine (sym c.split_at.ensures.front) (line-front c.args.text.now c.line_len.result c.line_len.ensures.value)
