-- How the lists of writes are written into a store, one after another, and that nothing is left over.
use Rattle.std.proofs.Common.{◌≡◌, ℕ, ◌+◌, ◌-◌, ◌*◌, ◌/◌, ◌%◌, ◌<◌, ◌≤◌, Some, List, [], length, get_or, set, min, sym, ap, ◌∙◌, subst, arith}
use Rattle.std.specs.Prelude.{slice_get}
use Rattle.std.proofs.lemmas.List.{get_or_default}
use Rattle.std.proofs.lemmas.Option.{slice_get-get_or}
use Rattle.pts_types.specs.declared.value.Value.{Value}
use Rattle.pts_store.specs.declared.slot.Slot.{Slot}
use Rattle.pts_store.specs.declared.slot.Slot.TheVariants.{Nothing}
use Rattle.pts_store.specs.Stores.{Store, shown, cells_with, arrays_with, accepted}
use Rattle.pts_store.specs.Stretches.{Shows}
use Rattle.pts_store.specs.Writes.{Page, Block, Row, Band, Writes, held, in_page, in_block, in_row, in_band, written}
use Rattle.pts_store.proofs.Empty.{in_page-past, in_block-past, in_row-past, in_band-past, written-past}
use Rattle.pts_store.proofs.Joining.{Shows-next, Shows-longer, Shows-set}
use Rattle.pts_store.proofs.Shown.{Shows-whole, cells_with-nothing, slice_get-cells_with, slice_get-arrays_with}

-- ---- one part more

pub page-next : (page : Page) (base at : ℕ) (old mid : List Value) (value : Value) (slot : Slot) (x : Value)
    → Shows shown (in_page page) base at old mid → at < length page → base + at < length mid
    → value ≡ shown (held (get_or page at slot)) (get_or mid (base + at) x)
    → Shows shown (in_page page) base (at + 1) old (set mid (base + at) value)
unfolding in_page
page-next page base at old mid value slot x first inside within is =
    let here = get_or mid (base + at) x in
    let there : slice_get mid (base + at) ≡ Some here = slice_get-get_or mid (base + at) x within in
    let same : value ≡ shown (in_page page at) here =
    is ∙ ap (λ s. shown (held s) here) (get_or_default page at slot Nothing inside) in
    let P : Value → Type 0 = λ v. Shows shown (in_page page) base (at + 1) old (set mid (base + at) v) in
    subst P (sym same) (Shows-set shown (in_page page) base at old mid here first within there)

pub block-next : (pages : Block) (base at : ℕ) (old mid new : List Value)
    → Shows shown (in_block pages) base (at * 128) old mid
    → Shows shown (in_page (get_or pages at [])) (base + at * 128) 128 mid new
    → Shows shown (in_block pages) base ((at + 1) * 128) old new
unfolding in_block
block-next pages base at old mid new first page =
    let agree : (k : ℕ) → k < 128 → in_page (get_or pages at []) k ≡ in_block pages (at * 128 + k) =
    λ k less.
    let quotient : at ≡ (at * 128 + k) / 128 = omega arith in
    let rest : k ≡ (at * 128 + k) % 128 = omega arith in
    ap (λ q. in_page (get_or pages q []) k) quotient ∙ ap (in_page (get_or pages ((at * 128 + k) / 128) [])) rest in
    let sum : at * 128 + 128 ≡ (at + 1) * 128 = omega arith in
    let P : ℕ → Type 0 = λ size. Shows shown (in_block pages) base size old new in
    subst P sum (Shows-next shown (in_block pages) (in_page (get_or pages at [])) base (at * 128) 128 old mid new first page agree)

pub row-next : (blocks : Row) (at : ℕ) (old mid new : List Value)
    → Shows shown (in_row blocks) 0 (at * 8192) old mid
    → Shows shown (in_block (get_or blocks at [])) (at * 8192) 8192 mid new
    → Shows shown (in_row blocks) 0 ((at + 1) * 8192) old new
unfolding in_row
row-next blocks at old mid new first block =
    let agree : (k : ℕ) → k < 8192 → in_block (get_or blocks at []) k ≡ in_row blocks (at * 8192 + k) =
    λ k less.
    let quotient : at ≡ (at * 8192 + k) / 8192 = omega arith in
    let rest : k ≡ (at * 8192 + k) % 8192 = omega arith in
    ap (λ q. in_block (get_or blocks q []) k) quotient ∙ ap (in_block (get_or blocks ((at * 8192 + k) / 8192) [])) rest in
    let sum : at * 8192 + 8192 ≡ (at + 1) * 8192 = omega arith in
    let front : at * 8192 ≡ 0 + at * 8192 = omega arith in
    let P : ℕ → Type 0 = λ size. Shows shown (in_row blocks) 0 size old new in
    let Q : ℕ → Type 0 = λ base. Shows shown (in_block (get_or blocks at [])) base 8192 mid new in
    subst P sum (Shows-next shown (in_row blocks) (in_block (get_or blocks at [])) 0 (at * 8192) 8192 old mid new first (subst Q front block) agree)

pub writes-next : (bands : Writes) (at : ℕ) (old mid new : Store)
    → Shows cells_with (written bands) 0 (at * 64) old mid
    → Shows cells_with (in_band (get_or bands at [])) (at * 64) 64 mid new
    → Shows cells_with (written bands) 0 ((at + 1) * 64) old new
unfolding written
writes-next bands at old mid new first band =
    let agree : (k : ℕ) → k < 64 → in_band (get_or bands at []) k ≡ written bands (at * 64 + k) =
    λ k less.
    let quotient : at ≡ (at * 64 + k) / 64 = omega arith in
    let rest : k ≡ (at * 64 + k) % 64 = omega arith in
    ap (λ q. in_band (get_or bands q []) k) quotient ∙ ap (in_band (get_or bands ((at * 64 + k) / 64) [])) rest in
    let sum : at * 64 + 64 ≡ (at + 1) * 64 = omega arith in
    let front : at * 64 ≡ 0 + at * 64 = omega arith in
    let P : ℕ → Type 0 = λ size. Shows cells_with (written bands) 0 size old new in
    let Q : ℕ → Type 0 = λ base. Shows cells_with (in_band (get_or bands at [])) base 64 mid new in
    subst P sum (Shows-next cells_with (written bands) (in_band (get_or bands at [])) 0 (at * 64) 64 old mid new first (subst Q front band) agree)

-- ---- nothing is left over

pub page-done : (page : Page) (base count : ℕ) (old new : List Value)
    → Shows shown (in_page page) base count old new → count ≡ min (min (length page) 128) (length old - base)
    → Shows shown (in_page page) base 128 old new
page-done page base count old new s all =
    Shows-longer shown (in_page page) base count 128 (length page) old new s (omega arith)
    (λ k past x. ap (λ o. shown o x) (in_page-past page k past))
    (λ k low high here. omega arith)

pub block-done : (pages : Block) (base count : ℕ) (old new : List Value)
    → Shows shown (in_block pages) base (count * 128) old new → count ≡ min (min (length pages) 64) ((length old - base) / 128 + 1)
    → Shows shown (in_block pages) base 8192 old new
block-done pages base count old new s all =
    Shows-longer shown (in_block pages) base (count * 128) 8192 (length pages * 128) old new s (omega arith)
    (λ k past x. let far : length pages ≤ k / 128 = omega arith in ap (λ o. shown o x) (in_block-past pages k far))
    (λ k low high here. omega arith)

pub band-done : (rows : Band) (base count : ℕ) (old new : Store)
    → Shows cells_with (in_band rows) base count old new → count ≡ min (min (length rows) 64) (length old - base)
    → Shows cells_with (in_band rows) base 64 old new
band-done rows base count old new s all =
    Shows-longer cells_with (in_band rows) base count 64 (length rows) old new s (omega arith)
    (λ k past cells. cells_with-nothing (in_band rows k) (λ index. in_band-past rows k index past) cells)
    (λ k low high here. omega arith)

pub row-done : (blocks : Row) (count : ℕ) (old new : List Value)
    → Shows shown (in_row blocks) 0 (count * 8192) old new → count ≡ min (length blocks) (length old / 8192 + 1)
    → new ≡ cells_with (in_row blocks) old
row-done blocks count old new s all =
    Shows-whole shown (in_row blocks) (count * 8192 + length old) old new (cells_with (in_row blocks) old)
    (Shows-longer shown (in_row blocks) 0 (count * 8192) (count * 8192 + length old) (length blocks * 8192) old new s (omega arith)
    (λ k past x. let far : length blocks ≤ k / 8192 = omega arith in ap (λ o. shown o x) (in_row-past blocks k far))
    (λ k low high here. omega arith))
    (omega arith)
    (slice_get-cells_with (in_row blocks) old)

pub writes-done : (bands : Writes) (count : ℕ) (old new : Store)
    → Shows cells_with (written bands) 0 (count * 64) old new → count ≡ min (length bands) (length old / 64 + 1)
    → new ≡ accepted old bands
unfolding accepted
writes-done bands count old new s all =
    Shows-whole cells_with (written bands) (count * 64 + length old) old new (arrays_with (written bands) old)
    (Shows-longer cells_with (written bands) 0 (count * 64) (count * 64 + length old) (length bands * 64) old new s (omega arith)
    (λ k past cells.
    let far : length bands ≤ k / 64 = omega arith in
    cells_with-nothing (written bands k) (λ index. written-past bands k index far) cells)
    (λ k low high here. omega arith))
    (omega arith)
    (slice_get-arrays_with (written bands) old)
