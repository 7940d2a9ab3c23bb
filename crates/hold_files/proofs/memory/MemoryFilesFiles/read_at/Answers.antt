use Rattle.std.proofs.Common.{◌≡◌, sym, ap, refl, rules}
use Rattle.std.proofs.lemmas.Result.{on_ok_weaker}
use Rattle.hold_files.specs.declared.memory.entry.Entry.{Entry}
use Rattle.hold_files.specs.Shelf.{risen}
use Rattle.hold_files.proofs.EntryLemmas.{IsReplaced-lent, count-replaced, RisesAlone-replaced, OnlyReads-replaced, IsNext-replaced}
use Rattle.hold_files.proofs.memory.MemoryFilesFiles.read_at.Goals as goal

pub returns-clause-alone : goal.returns-clause-alone
returns-clause-alone c =
    let replaced = IsReplaced-lent c.args.self.now.entries (c.get_mut.follows.lender c.read_at.new.self) c.args.name.now c.in-Some.entry.now c.read_at.new.self
    (sym c.in-Some.ensures.value) (c.get_mut.follows.holds c.read_at.new.self) in
    RisesAlone-replaced (λ (e : Entry). e.read_faults) c.args.self.now _ c.args.self.now.other_read_faults _ _ _ replaced

pub returns-clause-stays : goal.returns-clause-stays
returns-clause-stays c =
    let replaced = IsReplaced-lent c.args.self.now.entries (c.get_mut.follows.lender c.read_at.new.self) c.args.name.now c.in-Some.entry.now c.read_at.new.self
    (sym c.in-Some.ensures.value) (c.get_mut.follows.holds c.read_at.new.self) in
    OnlyReads-replaced _ _ _ _ _ _ _ _ _ replaced c.read_at.ensures.text c.read_at.ensures.writes c.read_at.ensures.reads

pub returns-clause-next : goal.returns-clause-next
returns-clause-next c =
    let replaced = IsReplaced-lent c.args.self.now.entries (c.get_mut.follows.lender c.read_at.new.self) c.args.name.now c.in-Some.entry.now c.read_at.new.self
    (sym c.in-Some.ensures.value) (c.get_mut.follows.holds c.read_at.new.self) in
    let counted : c.saturating_add-self.result ≡ risen c.args.self.now.calls.reads = search rules in
    IsNext-replaced _ _ _ _ _ _ replaced c.read_at.ensures.output c.read_at.ensures.room
    (ap (λ n. record c.args.self.now.calls { reads = n }) counted) refl refl

pub returns-clause-counted : goal.returns-clause-counted
returns-clause-counted c =
    let replaced = IsReplaced-lent c.args.self.now.entries (c.get_mut.follows.lender c.read_at.new.self) c.args.name.now c.in-Some.entry.now c.read_at.new.self
    (sym c.in-Some.ensures.value) (c.get_mut.follows.holds c.read_at.new.self) in
    on_ok_weaker c.read_at.result
    (λ same. count-replaced (λ (e : Entry). e.read_faults) _ _ c.args.self.now.other_read_faults _ _ _ replaced (ap (λ (e : Entry). e.read_faults) same)) c.read_at.ensures.ok
