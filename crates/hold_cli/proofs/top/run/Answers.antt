use Rattle.hold_cli.proofs.Answers.{only_refused, job_stays, netlist_stays}
use Rattle.hold_cli.proofs.Verdicts.{repaired, repaired_texts, only_repaired, needs_padding, padding_said, only_needs_padding, write_texts, read_named, refused_named, only_read, unread, unwritten, unchanged}
use Rattle.hold_cli.proofs.Complete.{complete}
use Rattle.hold_cli.proofs.top.run.Goals as goal

pub returns-in-Some-clause-only_refused : goal.returns-in-Some-clause-only_refused
returns-in-Some-clause-only_refused g c = λ name fault repair refuses.
    only_refused (g.F.Files.told c.args.files.now) (g.F.Files.told c.repair.new.files) c.args.words.now c.in-Some.name.now name fault c.repair.result
    c.in-Some.ensures.found c.repair.ensures.answer repair refuses

pub returns-in-Some-clause-repaired : goal.returns-in-Some-clause-repaired
returns-in-Some-clause-repaired g c =
    repaired (g.F.Files.told c.args.files.now) (g.F.Files.told c.repair.new.files) c.args.words.now c.in-Some.name.now c.repair.result
    c.in-Some.ensures.found c.repair.ensures.answer

pub returns-in-Some-clause-repaired_texts : goal.returns-in-Some-clause-repaired_texts
returns-in-Some-clause-repaired_texts g c =
    repaired_texts (g.F.Files.told c.args.files.now) (g.F.Files.told c.repair.new.files) c.args.words.now c.in-Some.name.now c.repair.result
    c.in-Some.ensures.found c.repair.ensures.answer

pub returns-in-Some-clause-only_repaired : goal.returns-in-Some-clause-only_repaired
returns-in-Some-clause-only_repaired g c =
    only_repaired (g.F.Files.told c.args.files.now) (g.F.Files.told c.repair.new.files) c.args.words.now c.in-Some.name.now c.repair.result
    c.in-Some.ensures.found c.repair.ensures.answer

pub returns-in-Some-clause-needs_padding : goal.returns-in-Some-clause-needs_padding
returns-in-Some-clause-needs_padding g c =
    needs_padding (g.F.Files.told c.args.files.now) (g.F.Files.told c.repair.new.files) c.args.words.now c.in-Some.name.now c.repair.result
    c.in-Some.ensures.found c.repair.ensures.answer

pub returns-in-Some-clause-padding_said : goal.returns-in-Some-clause-padding_said
returns-in-Some-clause-padding_said g c =
    padding_said (g.F.Files.told c.args.files.now) (g.F.Files.told c.repair.new.files) c.args.words.now c.in-Some.name.now c.repair.result
    c.in-Some.ensures.found c.repair.ensures.answer

pub returns-in-Some-clause-only_needs_padding : goal.returns-in-Some-clause-only_needs_padding
returns-in-Some-clause-only_needs_padding g c =
    only_needs_padding (g.F.Files.told c.args.files.now) (g.F.Files.told c.repair.new.files) c.args.words.now c.in-Some.name.now c.repair.result
    c.in-Some.ensures.found c.repair.ensures.answer

pub returns-in-Some-clause-job_stays : goal.returns-in-Some-clause-job_stays
returns-in-Some-clause-job_stays g c = λ name repair.
    job_stays (g.F.Files.told c.args.files.now) (g.F.Files.told c.repair.new.files) c.args.words.now c.in-Some.name.now name c.repair.result
    c.in-Some.ensures.found c.repair.ensures.answer repair

pub returns-in-Some-clause-netlist_stays : goal.returns-in-Some-clause-netlist_stays
returns-in-Some-clause-netlist_stays g c = λ name job repair at.
    netlist_stays (g.F.Files.told c.args.files.now) (g.F.Files.told c.repair.new.files) c.args.words.now c.in-Some.name.now name job c.repair.result
    c.in-Some.ensures.found c.repair.ensures.answer repair at

pub returns-in-Some-clause-complete : goal.returns-in-Some-clause-complete
returns-in-Some-clause-complete g c = λ name job netlist repair front calm.
    complete (g.F.Files.told c.args.files.now) (g.F.Files.told c.repair.new.files) c.args.words.now c.in-Some.name.now name job netlist c.repair.result
    c.in-Some.ensures.found c.repair.ensures.answer repair front calm

pub returns-in-Some-clause-write_texts : goal.returns-in-Some-clause-write_texts
returns-in-Some-clause-write_texts g c =
    write_texts (g.F.Files.told c.args.files.now) (g.F.Files.told c.repair.new.files) c.args.words.now c.in-Some.name.now c.repair.result
    c.in-Some.ensures.found c.repair.ensures.answer

pub returns-in-Some-clause-read_named : goal.returns-in-Some-clause-read_named
returns-in-Some-clause-read_named g c =
    read_named (g.F.Files.told c.args.files.now) (g.F.Files.told c.repair.new.files) c.args.words.now c.in-Some.name.now c.repair.result
    c.in-Some.ensures.found c.repair.ensures.answer

pub returns-in-Some-clause-refused_named : goal.returns-in-Some-clause-refused_named
returns-in-Some-clause-refused_named g c =
    refused_named (g.F.Files.told c.args.files.now) (g.F.Files.told c.repair.new.files) c.args.words.now c.in-Some.name.now c.repair.result
    c.in-Some.ensures.found c.repair.ensures.answer

pub returns-in-Some-clause-only_read : goal.returns-in-Some-clause-only_read
returns-in-Some-clause-only_read g c =
    only_read (g.F.Files.told c.args.files.now) (g.F.Files.told c.repair.new.files) c.args.words.now c.in-Some.name.now c.repair.result
    c.in-Some.ensures.found c.repair.ensures.answer

pub returns-in-Some-clause-unread : goal.returns-in-Some-clause-unread
returns-in-Some-clause-unread g c =
    unread (g.F.Files.told c.args.files.now) (g.F.Files.told c.repair.new.files) c.args.words.now c.in-Some.name.now c.repair.result
    c.in-Some.ensures.found c.repair.ensures.answer

pub returns-in-Some-clause-unwritten : goal.returns-in-Some-clause-unwritten
returns-in-Some-clause-unwritten g c =
    unwritten (g.F.Files.told c.args.files.now) (g.F.Files.told c.repair.new.files) c.args.words.now c.in-Some.name.now c.repair.result
    c.in-Some.ensures.found c.repair.ensures.answer

pub returns-in-Some-clause-unchanged : goal.returns-in-Some-clause-unchanged
returns-in-Some-clause-unchanged g c =
    unchanged (g.F.Files.told c.args.files.now) (g.F.Files.told c.repair.new.files) c.args.words.now c.in-Some.name.now c.repair.result
    c.in-Some.ensures.found c.repair.ensures.answer
