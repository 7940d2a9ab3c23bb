use Rattle.std.proofs.Common.{set, ap, arith}
use Rattle.std.specs.Prelude.{pos, unsigned_abs}
use Rattle.std.proofs.lemmas.Int.{ints}
use Rattle.std.proofs.lemmas.List.{get_or_read}
use Rattle.hold_proof.proofs.FormLemmas.{norm-at}
use Rattle.hold_proof.proofs.Magnitudes.{bounded}
use Rattle.hold_proof.proofs.factors.raise.Goals as goal

pub overflow_add-index_mut : goal.overflow_add-index_mut
overflow_add-index_mut c =
    let at = norm-at c.args.factors.now.items c.args.var in
    let read = get_or_read c.args.factors.now.items c.args.var c.index_mut.result.now c.requires.there c.index_mut.ensures.value (pos 0) in
    let size = ap unsigned_abs read in
    let old = bounded c.index_mut.result.now (unsigned_abs c.index_mut.result.now) (omega arith) in
    let by = bounded c.args.by (unsigned_abs c.args.by) (omega arith) in
    omega (arith, ints, at, size, old, by)

pub returns : goal.returns
returns c =
    let at = norm-at c.args.factors.now.items c.args.var in
    let read = get_or_read c.args.factors.now.items c.args.var c.index_mut.result.now c.requires.there c.index_mut.ensures.value (pos 0) in
    let size = ap unsigned_abs read in
    let old = bounded c.index_mut.result.now (unsigned_abs c.index_mut.result.now) (omega arith) in
    let by = bounded c.args.by (unsigned_abs c.args.by) (omega arith) in
    ap (set c.args.factors.now.items c.args.var) (omega (arith, ints, at, size, old, by, read))
