-- Counts of 0 are no buffers.
use Rattle.std.proofs.Common.{◌≡◌, ℕ, zero, suc, ◌*◌, ◌+◌, List, refl, ap}
use Rattle.std.specs.Prelude.{Option, Some, None, ◌==◌, replicate, position, slice_index}
use Rattle.std.proofs.Math.Path.{fun_ext}
use Rattle.hold_base.specs.declared.number.PinNo.{PinNo}
use Rattle.hold_graph.specs.Sites.{count_at, buffers_of}
use Rattle.hold_graph.specs.Sums.{no_buffers}

zeros-at : (n i : ℕ) → slice_index (replicate n 0) i ≡ 0
zeros-at zero i = refl
zeros-at (suc n) zero = refl
zeros-at (suc n) (suc i) = zeros-at n i

count_at-zeros : (kinds n : ℕ) (site : Option ℕ) (kind : ℕ) → count_at kinds (replicate n 0) site kind ≡ 0
count_at-zeros kinds n None kind = refl
count_at-zeros kinds n (Some site) kind = zeros-at n (site * kinds + kind)

pub buffers_of-zeros : (kinds n : ℕ) (sites : List PinNo) → buffers_of kinds sites (replicate n 0) ≡ no_buffers
buffers_of-zeros kinds n sites =
    fun_ext (λ pin. fun_ext (λ kind. count_at-zeros kinds n (position (λ site. site.0 == pin.0) sites) kind))
