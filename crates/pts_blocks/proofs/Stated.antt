-- The laws, from the lemmas.
use Rattle.std.proofs.Common.{false, true, refl, sym, ap, ◌∙◌, subst}
use Rattle.pts_blocks.specs.Footprints.{Footprint, Touches}
use Rattle.pts_blocks.specs.Frames.{IsFramed}
use Rattle.pts_blocks.specs.Laws.{AloneDiscardsNone, AloneIsCaused, AloneIsPermitted, BlocksAreFramed, RunsAreFramed, RunsExchange, RunsFork, RunsJoin, RunsSplit, StatementsAreFramed, TasksSpawnNone, TerminatedAtEachLevel}
use Rattle.pts_blocks.specs.Meanings.{Meaning}
use Rattle.pts_blocks.specs.Runs.{Runs, with_store}
use Rattle.pts_blocks.specs.Trees.{is_discarded, is_terminated, some_end, some_own_end}
use Rattle.pts_blocks.proofs.Alone.{alone_caused, alone_discards_none, fits_among}
use Rattle.pts_blocks.proofs.Deep.{one_level}
use Rattle.pts_blocks.proofs.Ends.{runs_plain}
use Rattle.pts_blocks.proofs.Joining.{does_framed, exchanged, forked, joined, runs_framed, split}

pub at_each_level : (m : Meaning) → TerminatedAtEachLevel m
at_each_level m alone block before after tree notes fits =
    ap (some_end is_terminated) fits.tree_is ∙ one_level m alone fits.runs ∙ sym (ap (some_own_end is_terminated) fits.tree_is)

pub spawn_none : (m : Meaning) → TasksSpawnNone m
spawn_none m alone xs a b e p body r = runs_plain m alone r body

pub is_permitted : (m : Meaning) → AloneIsPermitted m
is_permitted m block before after tree notes fits = fits_among m block before tree notes after fits

pub discards_none : (m : Meaning) → AloneDiscardsNone m
discards_none m block before after tree notes fits = ap (some_end is_discarded) fits.tree_is ∙ alone_discards_none m fits.runs

pub is_caused : (m : Meaning) → AloneIsCaused m
is_caused m xs store e p b r = alone_caused m r

pub join : (m : Meaning) → RunsJoin m
join m alone xs ys a b c e p q one rest = joined m alone one rest

pub cut : (m : Meaning) → RunsSplit m
cut m alone xs ys a c e p r = split m alone xs r

pub framed : (m : Meaning) (f : Footprint) → RunsAreFramed m f
framed m f local alone xs a b e p r = runs_framed m f local alone r

pub statement_framed : (m : Meaning) (f : Footprint) → StatementsAreFramed m f
statement_framed m f local alone x a b e p d = does_framed m f local alone d

pub block_framed : (m : Meaning) (f : Footprint) → BlocksAreFramed m f
block_framed m f local alone block before after tree notes fits =
    let whole = runs_framed m f local alone fits.runs in
    record {
      changes = whole.changes;
      inside = whole.inside;
      after_is = fits.after_is ∙ whole.after_is;
      again =
          λ store agree.
          record {
            end = fits.end;
            part = fits.part;
            to = with_store fits.to _;
            runs = whole.again store agree;
            caused = fits.caused;
            tree_is = fits.tree_is;
            notes_are = fits.notes_are;
            after_is = refl;
          };
    }

pub exchange : (m : Meaning) (f : Footprint) → RunsExchange m f
exchange m f local alone other xs ys a b c d e g p q first second at reads_later reads_earlier writes =
    exchanged
    (Touches m f false xs)
    (Touches m f true xs)
    (Touches m f false ys)
    (Touches m f true ys)
    (λ s t. Runs m alone xs (with_store a s) e p (with_store b t))
    (λ s t. Runs m other ys (with_store c s) g q (with_store d t))
    a.store
    b.store
    d.store
    (runs_framed m f local alone first)
    (subst
    (λ s. IsFramed (Touches m f false ys) (Touches m f true ys) (λ u v. Runs m other ys (with_store c u) g q (with_store d v)) s d.store)
    at
    (runs_framed m f local other second))
    reads_later
    reads_earlier
    writes

pub fork : (m : Meaning) (f : Footprint) → RunsFork m f
fork m f local alone x ys xs a b c e g p q is may body task rest apart = forked m f local alone x ys xs a b c e g p q is may body task rest apart
