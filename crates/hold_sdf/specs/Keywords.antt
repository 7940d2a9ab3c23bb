-- Keywords, which are taken in either case. A group's keyword is its first item, where that is an atom.
--
-- is_word words text: whether the text is one of these words in any case.
-- kind_of other table text: what stands in the table beside the first word that is the text in any case; `other` where none
--     is.
-- header_words .. check_words: the groups that may stand in a file before its cells, in a cell behind its type and
--     instance, in DELAY, in ABSOLUTE and in TIMINGCHECK, and what each is there.
-- header_kind .. check_kind: what a group of this keyword is there. The empty text, which is no keyword, is Other.
-- file_words, cell_words, type_words, instance_words, path_words, cond_words, retain_words, edge_words, condition_words: the
--     one or two words that a group of a sort of its own may have.
use Rattle.std.specs.Prelude.{ℕ, Bool, List, [], ◌∷◌, bytes_eq, codes, if◌then◌else◌, is_some}
use Rattle.hold_words.specs.Rows.{upper, first_row_any_case}
use Rattle.hold_sdf.specs.declared.keyword.HeaderKind.{HeaderKind}
use Rattle.hold_sdf.specs.declared.keyword.HeaderKind.TheVariants.{Divider, TimeScale, ReadPast as HeaderPast, Other as NoHeader}
use Rattle.hold_sdf.specs.declared.keyword.TimingKind.{TimingKind}
use Rattle.hold_sdf.specs.declared.keyword.TimingKind.TheVariants.{Delay, TimingCheck, ReadPast as TimingPast, Other as NoTiming}
use Rattle.hold_sdf.specs.declared.keyword.DelayKind.{DelayKind}
use Rattle.hold_sdf.specs.declared.keyword.DelayKind.TheVariants.{Absolute, ReadPast as DelayPast, LeftOut as DelayLeftOut, Other as NoDelay}
use Rattle.hold_sdf.specs.declared.keyword.PathKind.{PathKind}
use Rattle.hold_sdf.specs.declared.keyword.PathKind.TheVariants.{IoPath, Cond, CondElse, Interconnect, LeftOut as PathLeftOut, Other as NoPath}
use Rattle.hold_sdf.specs.declared.keyword.CheckKind.{CheckKind}
use Rattle.hold_sdf.specs.declared.keyword.CheckKind.TheVariants.{Setup, Hold, SetupHold, ReadPast as CheckPast, Other as NoCheck}

abbrev pub is_word : List (List ℕ) → List ℕ → Bool
is_word words text = is_some (first_row_any_case text words)

abbrev pub kind_of : {K : Type 0} → K → List (List ℕ × K) → List ℕ → K
kind_of other [] text = other
kind_of other (row ∷ rows) text = if bytes_eq (upper row.0) (upper text) then row.1 else kind_of other rows text

unfoldable pub header_words : List (List ℕ × HeaderKind)
header_words =
    (codes "DIVIDER", Divider) ∷ (codes "TIMESCALE", TimeScale) ∷ (codes "SDFVERSION", HeaderPast) ∷ (codes "DESIGN", HeaderPast)
    ∷ (codes "DATE", HeaderPast) ∷ (codes "VENDOR", HeaderPast) ∷ (codes "PROGRAM", HeaderPast) ∷ (codes "VERSION", HeaderPast)
    ∷ (codes "VOLTAGE", HeaderPast) ∷ (codes "PROCESS", HeaderPast) ∷ (codes "TEMPERATURE", HeaderPast) ∷ []

unfoldable pub timing_words : List (List ℕ × TimingKind)
timing_words = (codes "DELAY", Delay) ∷ (codes "TIMINGCHECK", TimingCheck) ∷ (codes "TIMINGENV", TimingPast) ∷ (codes "LABEL", TimingPast) ∷ []

unfoldable pub delay_words : List (List ℕ × DelayKind)
delay_words = (codes "ABSOLUTE", Absolute) ∷ (codes "INCREMENT", DelayLeftOut) ∷ (codes "PATHPULSE", DelayPast) ∷ (codes "PATHPULSEPERCENT", DelayPast) ∷ []

unfoldable pub path_kinds : List (List ℕ × PathKind)
path_kinds =
    (codes "IOPATH", IoPath) ∷ (codes "COND", Cond) ∷ (codes "CONDELSE", CondElse) ∷ (codes "INTERCONNECT", Interconnect)
    ∷ (codes "PORT", PathLeftOut) ∷ (codes "NETDELAY", PathLeftOut) ∷ (codes "DEVICE", PathLeftOut) ∷ []

unfoldable pub check_words : List (List ℕ × CheckKind)
check_words =
    (codes "SETUP", Setup) ∷ (codes "HOLD", Hold) ∷ (codes "SETUPHOLD", SetupHold) ∷ (codes "RECOVERY", CheckPast)
    ∷ (codes "REMOVAL", CheckPast) ∷ (codes "RECREM", CheckPast) ∷ (codes "WIDTH", CheckPast) ∷ (codes "PERIOD", CheckPast)
    ∷ (codes "SKEW", CheckPast) ∷ (codes "BIDIRECTSKEW", CheckPast) ∷ (codes "NOCHANGE", CheckPast) ∷ []

unfoldable pub header_kind : List ℕ → HeaderKind
header_kind text = kind_of NoHeader header_words text

unfoldable pub timing_kind : List ℕ → TimingKind
timing_kind text = kind_of NoTiming timing_words text

unfoldable pub delay_kind : List ℕ → DelayKind
delay_kind text = kind_of NoDelay delay_words text

unfoldable pub path_kind : List ℕ → PathKind
path_kind text = kind_of NoPath path_kinds text

unfoldable pub check_kind : List ℕ → CheckKind
check_kind text = kind_of NoCheck check_words text

unfoldable pub file_words : List (List ℕ)
file_words = codes "DELAYFILE" ∷ []

unfoldable pub cell_words : List (List ℕ)
cell_words = codes "CELL" ∷ []

unfoldable pub type_words : List (List ℕ)
type_words = codes "CELLTYPE" ∷ []

unfoldable pub instance_words : List (List ℕ)
instance_words = codes "INSTANCE" ∷ []

unfoldable pub path_words : List (List ℕ)
path_words = codes "IOPATH" ∷ []

unfoldable pub cond_words : List (List ℕ)
cond_words = codes "COND" ∷ []

unfoldable pub retain_words : List (List ℕ)
retain_words = codes "RETAIN" ∷ []

unfoldable pub edge_words : List (List ℕ)
edge_words = codes "POSEDGE" ∷ codes "NEGEDGE" ∷ []

unfoldable pub condition_words : List (List ℕ)
condition_words = codes "SCOND" ∷ codes "CCOND" ∷ []
