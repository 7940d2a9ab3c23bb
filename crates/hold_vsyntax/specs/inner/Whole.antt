-- IsModuleFault tokens end fault: the tokens are no module, for their first piece that can't stand, else since they
--   end too early, at the place end.
use Rattle.std.specs.Prelude.{◌≡◌, ◌⊎◌, ℕ, List}
use Rattle.hold_vlex.specs.Lexed.{Lexeme}
use Rattle.hold_vsyntax.specs.declared.fault.SyntaxFault.{SyntaxFault}
use Rattle.hold_vsyntax.specs.declared.fault.SyntaxFault.TheVariants.{Syntax}
use Rattle.hold_vsyntax.specs.Text.{IsPieceFault, EndsEarly}

abbrev pub IsModuleFault : List Lexeme → ℕ → SyntaxFault → Type 0
IsModuleFault tokens end fault = IsPieceFault tokens fault ⊎ (EndsEarly tokens × (fault ≡ Syntax end))
