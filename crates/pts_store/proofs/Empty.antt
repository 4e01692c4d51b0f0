-- Nothing is written in what is empty, nor past an end.
use Rattle.std.proofs.Common.{◌≡◌, ◌≤◌, ℕ, ◌/◌, ◌%◌, None, List, [], length, get_or, refl, ap, ◌∙◌}
use Rattle.std.proofs.Math.ListN.{get_or-eq_default}
use Rattle.pts_store.specs.declared.slot.Slot.TheVariants.{Nothing}
use Rattle.pts_store.specs.Writes.{Page, Block, Row, Band, Writes, held, in_page, in_block, in_row, in_band, written}

pub in_page-empty : (k : ℕ) → in_page [] k ≡ None
unfolding in_page
in_page-empty k = refl

pub in_block-empty : (k : ℕ) → in_block [] k ≡ None
unfolding in_block
in_block-empty k = in_page-empty (k % 128)

pub in_row-empty : (index : ℕ) → in_row [] index ≡ None
unfolding in_row
in_row-empty index = in_block-empty (index % 8192)

pub in_band-empty : (k index : ℕ) → in_band [] k index ≡ None
unfolding in_band
in_band-empty k index = in_row-empty index

pub written-empty : (array index : ℕ) → written [] array index ≡ None
unfolding written
written-empty array index = in_band-empty (array % 64) index

pub in_page-past : (page : Page) (k : ℕ) → length page ≤ k → in_page page k ≡ None
unfolding in_page
in_page-past page k past = ap held (get_or-eq_default page Nothing past)

pub in_block-past : (block : Block) (k : ℕ) → length block ≤ k / 128 → in_block block k ≡ None
unfolding in_block
in_block-past block k past = ap (λ page. in_page page (k % 128)) (get_or-eq_default block [] past) ∙ in_page-empty (k % 128)

pub in_row-past : (row : Row) (index : ℕ) → length row ≤ index / 8192 → in_row row index ≡ None
unfolding in_row
in_row-past row index past = ap (λ block. in_block block (index % 8192)) (get_or-eq_default row [] past) ∙ in_block-empty (index % 8192)

pub in_band-past : (band : Band) (k index : ℕ) → length band ≤ k → in_band band k index ≡ None
unfolding in_band
in_band-past band k index past = ap (λ row. in_row row index) (get_or-eq_default band [] past) ∙ in_row-empty index

pub written-past : (writes : Writes) (array index : ℕ) → length writes ≤ array / 64 → written writes array index ≡ None
unfolding written
written-past writes array index past =
    ap (λ band. in_band band (array % 64) index) (get_or-eq_default writes [] past) ∙ in_band-empty (array % 64) index

pub length-past : {X : Type 0} (lists : List (List X)) (k : ℕ) → length lists ≤ k → length (get_or lists k []) ≡ 0
length-past lists k past = ap length (get_or-eq_default lists [] past)

pub ruleset no_slots = (length-past)

pub ruleset nothing_in_pages = (in_page-empty, in_block-past)

pub ruleset nothing_in_blocks = (in_block-empty, in_row-past)

pub ruleset nothing_in_rows = (in_row-empty, in_band-past)

pub ruleset nothing_in_bands = (in_band-empty, written-past)

pub ruleset nothing_written = (written-empty)
