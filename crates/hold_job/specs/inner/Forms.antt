-- The forms that the code reads by, in the words of those that a job is defined by.
--
-- corner_names corners: their names.
-- allows rule t: whether the rule allows the text. text_form rule: the form of a text that it allows.
use Rattle.std.specs.Prelude.{ℕ, List, map, Bool, not, ◌&&◌}
use Rattle.hold_netlist.specs.Names.{is_among}
use Rattle.hold_job.specs.declared.corner.Corner.{Corner}
use Rattle.hold_job.specs.declared.text.TextRule.{TextRule}
use Rattle.hold_job.specs.declared.text.TextRule.TheVariants.{File, Name, NewName, NewCorner, OneOf}
use Rattle.hold_job.specs.Outcome.{◌>>=◌, in_rule}
use Rattle.hold_job.specs.Keys.{Form}
use Rattle.hold_job.specs.Names.{text, is_file_name, is_name, is_corner_name}

abbrev pub corner_names : List Corner → List (List ℕ)
corner_names corners = map (λ c. c.name) corners

abbrev pub allows : TextRule → List ℕ → Bool
allows File t = is_file_name t
allows Name t = is_name t
allows (NewName taken) t = is_name t && not (is_among t taken.now)
allows (NewCorner corners) t = is_corner_name t && not (is_among t (corner_names corners.now))
allows (OneOf names) t = is_among t names.now

abbrev pub text_form : TextRule → Form (List ℕ)
text_form rule d = text d >>= in_rule (allows rule)
