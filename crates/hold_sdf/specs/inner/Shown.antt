-- What the program's own records stand for.
--
-- shown_power scale: the power of ten of a scale.
-- shown_path path: the pins of a path and the numbers of its delays. shown_check check: the pins of a check and the numbers of its
--     values. shown_settings s: the settings. shown_scene s: what holds in a cell. shown_instance inst: the atom of an instance, if it
--     has one.
use Rattle.std.specs.Prelude.{ℕ, Option, option_map}
use Rattle.hold_sdflex.specs.Items.{Word, items_in}
use Rattle.hold_sdflex.specs.declared.items.Atom.{Atom}
use Rattle.hold_sdflex.specs.ItemsRead.{word_read}
use Rattle.hold_sdf.specs.Shapes.{IoPath, numbers_of, Check, atoms}
use Rattle.hold_sdf.specs.Settings.{Settings}
use Rattle.hold_sdf.specs.Entries.{Scene}
use Rattle.hold_sdf.specs.declared.scene.Scene.{Scene as SceneRead}
use Rattle.hold_decimal.specs.declared.scale.Scale.{Scale}
use Rattle.hold_sdf.specs.declared.settings.Settings.{Settings as SettingsRead}
use Rattle.hold_sdf.specs.declared.iopath.IoPath.{IoPath as PathRead}
use Rattle.hold_sdf.specs.declared.check.Check.{Check as CheckRead}

abbrev pub shown_path : PathRead → IoPath
shown_path path = record { from = word_read path.from; to = word_read path.to; numbers = numbers_of (items_in path.delays) }

abbrev pub shown_check : CheckRead → Check
shown_check check = record {
  data_pin = word_read check.pin;
  clock_pin = word_read check.clock;
  setup = option_map (λ value. atoms (items_in value)) check.setup;
  hold = option_map (λ value. atoms (items_in value)) check.hold;
}

abbrev pub shown_power : Scale → ℕ
shown_power scale = scale.exponent

abbrev pub shown_settings : SettingsRead → Settings
shown_settings s = record { divider = s.divider; power = option_map shown_power s.scale }

abbrev pub shown_scene : SceneRead → Scene
shown_scene s = record { inst = s.inst; divider = s.divider; power = s.scale.exponent }

abbrev pub shown_instance : Option Atom → Option Word
shown_instance inst = option_map word_read inst
