use Rattle.std.proofs.Common.{◌≡◌, sym, ap, refl, rules}
use Rattle.std.proofs.lemmas.Result.{on_ok_weaker}
use Rattle.hold_files.specs.declared.memory.entry.Entry.{Entry}
use Rattle.hold_files.specs.Shelf.{risen}
use Rattle.hold_files.proofs.EntryLemmas.{IsReplaced-lent, count-replaced, RisesAlone-replaced, OnlyWrites-replaced, IsNext-replaced}
use Rattle.hold_files.proofs.memory.MemoryFilesFiles.start.Goals as goal

pub returns-clause-alone : goal.returns-clause-alone
returns-clause-alone c =
    let replaced = IsReplaced-lent c.args.self.now.entries (c.get_mut.follows.lender c.start.new.self) c.args.name.now c.in-Some.entry.now c.start.new.self
    (sym c.in-Some.ensures.value) (c.get_mut.follows.holds c.start.new.self) in
    RisesAlone-replaced (λ (e : Entry). e.write_faults) c.args.self.now _ c.args.self.now.other_write_faults _ _ _ replaced

pub returns-clause-stays : goal.returns-clause-stays
returns-clause-stays c =
    let replaced = IsReplaced-lent c.args.self.now.entries (c.get_mut.follows.lender c.start.new.self) c.args.name.now c.in-Some.entry.now c.start.new.self
    (sym c.in-Some.ensures.value) (c.get_mut.follows.holds c.start.new.self) in
    OnlyWrites-replaced _ _ _ _ _ _ _ _ _ replaced c.start.ensures.reads c.start.ensures.writes

pub returns-clause-next : goal.returns-clause-next
returns-clause-next c =
    let replaced = IsReplaced-lent c.args.self.now.entries (c.get_mut.follows.lender c.start.new.self) c.args.name.now c.in-Some.entry.now c.start.new.self
    (sym c.in-Some.ensures.value) (c.get_mut.follows.holds c.start.new.self) in
    let counted : c.saturating_add-self.result ≡ risen c.args.self.now.calls.starts = search rules in
    IsNext-replaced _ _ _ _ _ _ replaced c.start.ensures.output c.start.ensures.room
    (ap (λ n. record c.args.self.now.calls { starts = n }) counted) refl refl

pub returns-clause-counted : goal.returns-clause-counted
returns-clause-counted c =
    let replaced = IsReplaced-lent c.args.self.now.entries (c.get_mut.follows.lender c.start.new.self) c.args.name.now c.in-Some.entry.now c.start.new.self
    (sym c.in-Some.ensures.value) (c.get_mut.follows.holds c.start.new.self) in
    on_ok_weaker c.start.result
    (λ same. count-replaced (λ (e : Entry). e.write_faults) _ _ c.args.self.now.other_write_faults _ _ _ replaced (ap (λ (e : Entry). e.write_faults) same)) c.start.ensures.ok
