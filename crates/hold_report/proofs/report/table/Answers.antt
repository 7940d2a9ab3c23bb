use Rattle.std.proofs.Common.{◌≡◌, ◌++◌, List, ℕ, ◌+◌, ◌<◌, ◌≤◌, length, ap, sym, ◌∙◌, subst, get_or, arith}
use Rattle.hold_job.specs.declared.corner.Corner.{Corner}
use Rattle.hold_netlist.specs.Design.{Design}
use Rattle.hold_report.specs.Table.{WorstEnds, rows_text, IsTable}
use Rattle.hold_base.proofs.Lists.{drop-here}
use Rattle.hold_report.proofs.Rows.{IsTableUpTo, table-more, table-whole, IsTable-one}
use Rattle.hold_report.proofs.report.table.Goals as goal

pub loop-at-preserved : goal.loop-at-preserved
loop-at-preserved c =
    let d : Design = c.args.bound.now.netlist in
    let corners : List Corner = c.args.job.now.corners in
    let ends : WorstEnds = record { early = c.bare_end-early.result; late = c.bare_end-late.result } in
    let all : c.as_slice-corner-items.result.now ≡ corners = c.as_slice-corner-items.ensures in
    let lt : c.loop-at.at < length corners = omega (arith, c.loop-at-test.true, ap length all) in
    let here : c.corner-item.result ≡ get_or corners c.loop-at.at c.corner-item.result =
    c.corner-item.is ∙ ap (λ (cs : List Corner). get_or cs c.loop-at.at c.corner-item.result) all in
    let front = drop-here corners c.loop-at.at c.corner-item.result lt here in
    let text : c.put_rows.new.out.items ≡ c.loop-at.text.items ++ rows_text d c.corner-item.result.name ends =
    c.in_ok-put_rows.ensures ∙ ap (λ (e : Design). c.loop-at.text.items ++ rows_text e c.corner-item.result.name ends) c.netlist.ensures in
    subst (IsTableUpTo d corners c.args.problem.now (c.loop-at.at + 1)) (sym text)
    (table-more d corners c.args.problem.now c.loop-at.at c.loop-at.text.items c.corner-item.result ends c.loop-at.invariant (omega (arith, lt, c.requires.corners)) front (λ spans at. record { early = c.bare_end-early.ensures spans at; late = c.bare_end-late.ensures spans at }))

pub returns-clause-table : goal.returns-clause-table
returns-clause-table c =
    let past : length c.args.job.now.corners ≤ c.loop-at.at = omega (arith, c.loop-at-test.false, ap length c.as_slice-corner-items.ensures) in
    table-whole c.args.bound.now.netlist c.args.job.now.corners c.args.problem.now c.loop-at.at c.loop-at.text.items c.loop-at.invariant past (omega (arith, past, c.requires.corners))

pub returns-clause-one : goal.returns-clause-one
returns-clause-one c = λ other is. IsTable-one c.args.bound.now.netlist c.args.job.now.corners c.args.problem.now other c.loop-at.text.items is (returns-clause-table c)
