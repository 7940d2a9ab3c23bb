use Rattle.std.proofs.Common.{◌+◌, ◌*◌, ◌^◌, ◌++◌, min, ap, subst, ◌∙◌, arith}
use Rattle.hold_base.specs.Limits.{time_limit}
use Rattle.hold_base.specs.Digits.{number_of}
use Rattle.hold_decimal.specs.inner.Reading.{IsCutOff}
use Rattle.hold_decimal.proofs.Digits.{AllDigits-append}
use Rattle.hold_decimal.proofs.Bounds.{parted_off, lost-zero, bounds_beside, bounds_none}
use Rattle.hold_decimal.proofs.rounding.bounds_of.Goals as goal

-- the digits that are kept and those that are lost, and what was counted of them
pub returns-clause-beside : goal.returns-clause-beside
returns-clause-beside c =
    let front = c.cut_off-cut.result.whole.now ++ c.cut_off-cut.result.part.now in
    let back = c.cut_off-cut.result.lost_whole.now ++ c.cut_off-cut.result.lost_part.now in
    let all = c.args.whole.now ++ c.args.part.now in
    let cut = subst (λ lost. IsCutOff all front back lost) c.saturating_sub.ensures c.cut_off-cut.ensures.cut in
    let digits = AllDigits-append c.cut_off-cut.result.lost_whole.now c.cut_off-cut.result.lost_part.now c.cut_off-cut.ensures.lost_whole c.cut_off-cut.ensures.lost_part in
    let zeros = c.loses_zeros.ensures in
    bounds_beside _ _ _ _ c.floor_of-floor.result c.loses_zeros.result c.within_limit.result
    (parted_off all front back c.args.up c.args.down digits cut)
    (c.floor_of-floor.ensures ∙ ap (λ n. min (number_of front * 10 ^ n) (time_limit + 1)) c.saturating_sub-2.ensures)
    ((λ t. ap (λ n. n * 10 ^ c.args.up) (zeros.0 t) ∙ omega arith), (λ e. zeros.1 (lost-zero (number_of back) c.args.up e)))
    c.within_limit.ensures.floor c.within_limit.ensures.ceiling c.within_limit.ensures.within

pub returns-clause-none : goal.returns-clause-none
returns-clause-none c =
    let front = c.cut_off-cut.result.whole.now ++ c.cut_off-cut.result.part.now in
    let back = c.cut_off-cut.result.lost_whole.now ++ c.cut_off-cut.result.lost_part.now in
    let all = c.args.whole.now ++ c.args.part.now in
    let cut = subst (λ lost. IsCutOff all front back lost) c.saturating_sub.ensures c.cut_off-cut.ensures.cut in
    let digits = AllDigits-append c.cut_off-cut.result.lost_whole.now c.cut_off-cut.result.lost_part.now c.cut_off-cut.ensures.lost_whole c.cut_off-cut.ensures.lost_part in
    let zeros = c.loses_zeros.ensures in
    bounds_none _ _ _ _ c.floor_of-floor.result c.loses_zeros.result c.within_limit.result
    (parted_off all front back c.args.up c.args.down digits cut)
    (c.floor_of-floor.ensures ∙ ap (λ n. min (number_of front * 10 ^ n) (time_limit + 1)) c.saturating_sub-2.ensures)
    ((λ t. ap (λ n. n * 10 ^ c.args.up) (zeros.0 t) ∙ omega arith), (λ e. zeros.1 (lost-zero (number_of back) c.args.up e)))
    c.within_limit.ensures.none
