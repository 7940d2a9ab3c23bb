use Rattle.std.proofs.Common.{◌≡◌, ◌<◌, ◌≤◌, ◌-◌, ◌++◌, length, take, arith, rules}
use Rattle.std.proofs.lemmas.Grind.{common_steps}
use Rattle.hold_files.proofs.Progress.{IsReadTo-end, IsReadTo-past, IsReadTo-more}
use Rattle.hold_files.proofs.reading.read_whole.Goals as goal

pub returns-then-count-eq0-clause-whole : goal.returns-then-count-eq0-clause-whole
returns-then-count-eq0-clause-whole g c =
    let place : c.len-place.result ≡ length c.loop-text.text.items = search rules in
    let room : 0 < length c.as_mut_slice.result.now = search rules in
    IsReadTo-end _ _ _ _ _ c.loop-text.invariant.front
    (λ text is. let last : length text ≤ c.len-place.result = c.in_ok-count.ensures.end text is c.if-count-eq0.true room in omega arith)

pub returns-then-count-limit-clause-too_long : goal.returns-then-count-limit-clause-too_long
returns-then-count-limit-clause-too_long g c =
    let place : c.len-place.result ≡ length c.loop-text.text.items = search rules in
    let count : c.in_ok-count.count ≤ length c.read_at.new.into = search rules in
    let past : c.args.limit - length c.loop-text.text.items < c.in_ok-count.count = omega arith in
    λ _. IsReadTo-past _ _ _ _ c.read_at.new.into _ _ c.loop-text.invariant.front count past (rw place at c.in_ok-count.ensures.copied)

pub loop-text-preserved : goal.loop-text-preserved
loop-text-preserved g c =
    let place : c.len-place.result ≡ length c.loop-text.text.items = search rules in
    let count : c.in_ok-count.count ≤ length c.read_at.new.into = search rules in
    let fits : c.in_ok-count.count ≤ c.args.limit - length c.loop-text.text.items = omega arith in
    let longer : c.extend_from_slice.new.self.items ≡ c.loop-text.text.items ++ take c.in_ok-count.count c.read_at.new.into = grind (arith, common_steps) in
    record {
      front = rw longer (IsReadTo-more _ _ _ _ _ c.read_at.new.into _ _ c.loop-text.invariant.front count fits (rw place at c.in_ok-count.ensures.copied) c.read_at.ensures.stays);
      piece = search rules;
    }
