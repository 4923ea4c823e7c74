-- "Entries and requests", the table: what a request needs, and what it adds to a fault's code.
use Rattle.std.specs.Prelude.{Bool, cond, ◌&&◌, ℕ, ◌+◌, ◌*◌, ◌/◌, ◌%◌, eqb, leb}
use Rattle.paging.specs.declared.Request.{Request}
use Rattle.paging.specs.Layout.{Layout, bit}

-- one number each for read, write and fetch
abbrev pub by_kind : ℕ → ℕ → ℕ → ℕ → ℕ
by_kind k read write fetch = cond (eqb k 0) read (cond (eqb k 1) write fetch)

-- "0 read: none, 0; 1 write: W, 2; 2 fetch: X, 16; 3, 4, 5: as 0, 1, 2, with U besides, 4 more"
unfoldable pub request_of : Layout → ℕ → Request
request_of Y number = record {
  needs = by_kind (number % 3) 0 1 4 + 2 * (number / 3);
  adds = by_kind (number % 3) 0 2 Y.fetch_adds + 4 * (number / 3);
}

-- no needed right is lacking
unfoldable pub enough : Request → ℕ → Bool
enough q r = leb (bit q.needs 0) (bit r 0) && leb (bit q.needs 1) (bit r 1) && leb (bit q.needs 2) (bit r 2)

-- a request that needs W is a write
abbrev pub is_write : Request → Bool
is_write q = eqb (bit q.needs 0) 1
