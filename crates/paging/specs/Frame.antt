-- "A guest frame number and a host frame number are two separate counts, and neither may stand where the other is due."
-- Guest and Host are two types; only the map, here, turns one into the other.
use Rattle.std.specs.Prelude.{◌≡◌, Bool, cond, not, ◌&&◌, List, [], ◌∷◌, ℕ, ◌+◌, ◌^◌, ◌<◌, ◌*◌, ◌%◌, eqb, ltb, length, get_or, Option, Some, None}
use Rattle.paging.specs.declared.Guest.{Guest}
use Rattle.paging.specs.declared.Host.{Host}
use Rattle.paging.specs.Numbers.{all}

abbrev pub guest : ℕ → Guest
guest n = record { 0 = n }

abbrev pub host : ℕ → Host
host n = record { 0 = n }

-- "Each guest frame is mapped to one host frame by a fixed map."
abbrev pub host_of : List ℕ → Guest → Host
host_of map g = host (get_or map g.0 0)

-- the host address of an access: "The value is host frame × 4096 + address mod 4096."
abbrev pub host_address : Host → ℕ → ℕ
host_address h a = h.0 * 2 ^ 12 + a % 2 ^ 12

-- the first guest frame from k on that is mapped to h; where no map frame repeats there is no other
unfoldable pub origin_from : ℕ → List ℕ → Host → Option Guest
origin_from k [] h = None
origin_from k (x ∷ xs) h = cond (eqb x h.0) (Some (guest k)) (origin_from (k + 1) xs h)

abbrev pub origin_of : List ℕ → Host → Option Guest
origin_of map h = origin_from 0 map h

-- none of the first n frames of a map is f
abbrev pub is_new : List ℕ → ℕ → ℕ → Bool
is_new map n f = all n (λ j. not (eqb (get_or map j 0) f))

-- no map frame repeats
abbrev pub Distinct : List ℕ → Type 0
Distinct map = (i j : ℕ) → i < length map → j < length map → get_or map i 0 ≡ get_or map j 0 → i ≡ j

-- "a map frame repeats, is 2^40 or more": the frame at each place is below the limit and new among those before it
unfoldable pub map_fits : ℕ → List ℕ → Bool
map_fits limit map = all (length map) (λ i. ltb (get_or map i 0) limit && is_new map i (get_or map i 0))

-- "CR3 frame ≥ G": of a start's CR3s, each names a guest frame
unfoldable pub cr3s_fit : ℕ → List ℕ → Bool
cr3s_fit G cr3s = all (length cr3s) (λ p. ltb (get_or cr3s p 0) G)
