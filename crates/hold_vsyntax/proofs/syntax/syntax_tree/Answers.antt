use Rattle.hold_vsyntax.proofs.OneAnswer.{only_tree, only_fault}
use Rattle.hold_vsyntax.proofs.NamedLemmas.{tree_named}
use Rattle.hold_vsyntax.proofs.syntax.syntax_tree.Goals as goal

pub returns-clause-only_read : goal.returns-clause-only_read
returns-clause-only_read c = λ m is. only_tree c.args.text.now c.module_of_text.result m c.module_of_text.ensures.read c.module_of_text.ensures.refused is

pub returns-clause-only_refused : goal.returns-clause-only_refused
returns-clause-only_refused c = λ f is. only_fault c.args.text.now c.module_of_text.result f c.module_of_text.ensures.read c.module_of_text.ensures.refused is

pub returns-clause-named : goal.returns-clause-named
returns-clause-named c = tree_named c.args.text.now c.module_of_text.result c.know_names.ensures c.module_of_text.ensures.read
