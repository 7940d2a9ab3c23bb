-- within_after within b: where the byte after b stands, where b stands within so.
-- is_plain within: in no string.
use Rattle.std.specs.Prelude.{ℕ, Bool, true, false, ◌==◌, if◌then◌else◌}
use Rattle.hold_text.specs.Blanks.{quote, backslash}
use Rattle.hold_vlex.specs.declared.past.Within.{Within}
use Rattle.hold_vlex.specs.declared.past.Within.TheVariants.{Plain, Quoted, Slashed}

-- a string ends at its next quote, and a backslash in it takes the next byte
abbrev pub within_after : Within → ℕ → Within
within_after Plain b = if b == quote then Quoted else Plain
within_after Quoted b = if b == quote then Plain else (if b == backslash then Slashed else Quoted)
within_after Slashed b = Quoted

abbrev pub is_plain : Within → Bool
is_plain Plain = true
is_plain Quoted = false
is_plain Slashed = false
