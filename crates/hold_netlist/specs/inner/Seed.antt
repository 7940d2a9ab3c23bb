-- with_texts start texts: that state once these texts were written too, in order.
-- with_insts start insts: the same of each instance's name and the names of its pins, in order.
use Rattle.std.specs.Prelude.{ℕ, List, fold}
use Rattle.std.specs.Hash.DefaultHasher as sip
use Rattle.std.specs.declared.hash.DefaultHasher.{DefaultHasher}
use Rattle.hold_netlist.specs.declared.inst.Inst.{Inst}
use Rattle.hold_netlist.specs.Names.{pin_names}

abbrev pub with_texts : DefaultHasher → List (List ℕ) → DefaultHasher
with_texts start texts = fold sip.write start texts

abbrev pub with_insts : DefaultHasher → List Inst → DefaultHasher
with_insts start insts = fold (λ state i. with_texts (sip.write state i.name) (pin_names i.pins)) start insts
