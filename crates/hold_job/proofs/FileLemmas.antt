-- Names of SDF files, corner by corner.
use Rattle.std.proofs.Common.{◌≡◌, ℕ, List, ◌∷◌, Some, None, true, false, refl, bytes_eq}
use Rattle.hold_netlist.specs.Names.{is_among}
use Rattle.hold_job.specs.declared.corner.Corner.{Corner}
use Rattle.hold_job.specs.FileNames.{sdf_names}

pub sdf_name_none : (name : List ℕ) (c : Corner) (cs : List Corner) → c.sdf ≡ None → is_among name (sdf_names (c ∷ cs)) ≡ is_among name (sdf_names cs)
sdf_name_none name c cs missing = rw missing refl

pub sdf_name_first : (name sdf : List ℕ) (c : Corner) (cs : List Corner) → c.sdf ≡ Some sdf → bytes_eq name sdf ≡ true → is_among name (sdf_names (c ∷ cs)) ≡ true
sdf_name_first name sdf c cs has same = rw (has, same) refl

pub sdf_name_next : (name sdf : List ℕ) (c : Corner) (cs : List Corner) → c.sdf ≡ Some sdf → bytes_eq name sdf ≡ false → is_among name (sdf_names (c ∷ cs)) ≡ is_among name (sdf_names cs)
sdf_name_next name sdf c cs has apart = rw (has, apart) refl
