use Rattle.std.proofs.Common.{◌≡◌, ◌∙◌, subst, w64}
use Rattle.std.specs.Prelude.{ℤ}
use Rattle.std.proofs.lemmas.Int.{to_z-of_z}
use Rattle.hold_cli.specs.PaddingLine.{padding_line}
use Rattle.hold_cli.proofs.Deliveries.{line_fails}
use Rattle.hold_cli.proofs.top.ask_padding.Goals as goal

pub returns-in-Err-say_line-clause-answer : goal.returns-in-Err-say_line-clause-answer
returns-in-Err-say_line-clause-answer g c =
    let line = subst (λ (short : ℤ). c.as_slice.result.now ≡ padding_line c.args.front.now.job c.args.front.now.built.netlist c.args.path short)
    (to_z-of_z w64 c.args.short c.ranges.short) (c.as_slice.ensures.value ∙ c.in-Ok.ensures) in
    line_fails (g.F.Files.told c.args.files.now) (g.F.Files.told c.say_line.new.files) c.args.front.now.job c.args.front.now.built.netlist c.args.path c.args.short
    c.as_slice.result.now c.requires.misses line c.in-Err-say_line.ensures.failed
