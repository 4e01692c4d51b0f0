-- The statements of each block have its points, one behind the other.
use Rattle.std.proofs.Common.{◌≡◌, ℕ, ◌+◌, ◌≤◌, false, Some, List, [], ◌∷◌, ◌++◌, length, refl, sym, ap, ◌∙◌, subst, append_assoc, arith}
use Rattle.std.specs.Prelude.{slice_get, sum}
use Rattle.std.specs.List.{list_any}
use Rattle.std.proofs.lemmas.Bool.{or_parts}
use Rattle.std.proofs.lemmas.List.{length-append}
use Rattle.std.proofs.lemmas.List.Folds.{list_any-append}
use Rattle.pts_types.specs.declared.operation.Policy.{Policy}
use Rattle.pts_tree.specs.declared.sum.Cell.{Cell}
use Rattle.pts_tree.specs.declared.call.Call as call
use Rattle.pts_tree.specs.declared.expr.Expr.{Expr}
use Rattle.pts_tree.specs.declared.loops.Loop as loops
use Rattle.pts_tree.specs.declared.script.Item.TheVariants as items
use Rattle.pts_rules.specs.Counts.{reads, statement_points}
use Rattle.pts_rules.specs.Indices.{has_not_affine}
use Rattle.pts_rules.specs.Known.{Scope}
use Rattle.pts_rules.specs.Parts.{Simple, Throw, Assign, Call, Loop}
use Rattle.pts_code.specs.Values.{throw_code}
use Rattle.pts_points.specs.declared.point.CallInfo.{CallInfo}
use Rattle.pts_points.specs.Building.{calls_among, points_among}
use Rattle.pts_points.specs.Lines.{line_of_range, no_loop, space_of}
use Rattle.pts_points.specs.Points.{call_at, call_info, calls_from, calls_in, statement_piece}
use Rattle.pts_points.proofs.Countings.{points_counted}
use Rattle.pts_points.proofs.Each.{Each, both, weaker}
use Rattle.pts_points.proofs.StatementTurns.{calls_count}
use Rattle.pts_points.proofs.Wholes.{counted}
use Rattle.pts_lowering.specs.declared.blocks.Numbers.{Numbers}
use Rattle.pts_lowering.specs.declared.tasks.LoweredBlock.{LoweredBlock}
use Rattle.pts_lowering.specs.declared.tasks.LoweredTask.{LoweredTask}
use Rattle.pts_lowering.specs.declared.tasks.LoweredTask.TheVariants as tasks
use Rattle.pts_lowering.specs.Blocks.{Piece, assign_leaf, block_piece, call_leaf, each, inner, leaf, moved, none, total}
use Rattle.pts_program.specs.declared.lists.Lists.{Lists}
use Rattle.pts_layout.specs.Layout.{HavePoints, IsInOrder}
use Rattle.pts_layout.specs.Layout as layout
use Rattle.pts_layout.proofs.Places.{IsPart, back_part, front_part}

-- ---- statements behind statements

pub among_both : (scope : Scope) (xs ys : List Simple) → points_among scope (xs ++ ys) ≡ points_among scope xs + points_among scope ys
among_both scope [] ys = omega arith
among_both scope (x ∷ xs) ys = let h = among_both scope xs ys in omega (arith, h)

calls_both : (xs ys : List Simple) → calls_among (xs ++ ys) ≡ calls_among xs + calls_among ys
calls_both [] ys = omega arith
calls_both (x ∷ xs) ys = let h = calls_both xs ys in omega (arith, h)

calls_apart : (scope : Scope) (item n : ℕ) (xs ys : List Simple) → calls_from scope item n (xs ++ ys) ≡ calls_from scope item n xs ++ calls_from scope item (n + points_among scope xs) ys
calls_apart scope item n [] ys = let same : n ≡ n + 0 = omega arith in ap (λ k. calls_from scope item k ys) same
calls_apart scope item n (x ∷ xs) ys =
    let size = (statement_piece scope x).size in
    let rest = calls_from scope item (n + size) xs in
    let same : n + size + points_among scope xs ≡ n + (size + points_among scope xs) = omega arith in
    (λ i. call_at scope item n x ++ (calls_apart scope item (n + size) xs ys ∙ ap (λ k. rest ++ calls_from scope item k ys) same) i)
    ∙ sym (append_assoc (call_at scope item n x) rest (calls_from scope item (n + (size + points_among scope xs)) ys))

-- ---- what is kept where lists grow

pub record Grows (old new : Lists) : Type 0 where
  pub calls : (n : ℕ) (x : CallInfo) → slice_get old.calls n ≡ Some x → slice_get new.calls n ≡ Some x
  pub blocks : (n : ℕ) (x : LoweredBlock) → slice_get old.lowered_blocks n ≡ Some x → slice_get new.lowered_blocks n ≡ Some x

pub still_have : (old new : Lists) → Grows old new → (xs : List LoweredTask) (low end : ℕ) → HavePoints old xs low end → HavePoints new xs low end
still_have old new grows xs low end layout.none = layout.none
still_have old new grows (x ∷ xs) low end (layout.wait is rest) = layout.wait is (still_have old new grows xs low end rest)
still_have old new grows (x ∷ xs) low end (layout.throw code is rest) = layout.throw code is (still_have old new grows xs low end rest)
still_have old new grows (x ∷ xs) low end (layout.assign at is first le rest) = layout.assign at is first le (still_have old new grows xs (at.write + 1) end rest)
still_have old new grows (x ∷ xs) low end (layout.call n info is there first rest) =
    layout.call n info is (grows.calls n info there) first (still_have old new grows xs (info.first_point + info.points) end rest)
still_have old new grows (x ∷ xs) low end (layout.block n inside is there first rest) =
    layout.block n inside is (grows.blocks n inside there) first (still_have old new grows xs (inside.first_point + inside.points) end rest)
still_have old new grows (x ∷ xs) low end (layout.run body middle is own rest) =
    layout.run body middle is (still_have old new grows body low middle own) (still_have old new grows xs middle end rest)

-- ---- what is known of statements of a block

module _ (scope : Scope) (item : ℕ) (lists : Lists) where
  -- all indices of these statements are lines
  abbrev pub AreLines : List Simple → Type 0
  AreLines ss = list_any (has_not_affine scope) ss ≡ false

  lines_apart : (xs ys : List Simple) → AreLines (xs ++ ys) → AreLines xs × AreLines ys
  lines_apart xs ys h = or_parts (list_any (has_not_affine scope) xs) (list_any (has_not_affine scope) ys) (sym (list_any-append (has_not_affine scope) xs ys) ∙ h)

  abbrev pub OfItem : LoweredBlock → Type 0
  OfItem b = b.item ≡ item

  abbrev pub EndsBy : ℕ → LoweredBlock → Type 0
  EndsBy end b = b.first_point + b.points ≤ end

  -- where statements have these numbers, the lists have their calls and the blocks inside them
  pub record AreThere (at : Numbers) (ss : List Simple) (blocks : List LoweredBlock) : Type 0 where
    pub lines : AreLines ss
    pub calls : IsPart lists.calls at.calls (calls_from scope item at.points ss)
    pub inside : IsPart lists.lowered_blocks at.blocks blocks

  -- a statement of a block that is made of these, with so many blocks inside: it takes numbers as the points and the calls of
  -- these do, and it has the points that it takes, and so has each of its blocks
  pub record Good (p : Piece) (ss : List Simple) (count : ℕ) : Type 0 where
    pub points : AreLines ss → p.takes.points ≡ points_among scope ss
    pub calls : p.takes.calls ≡ calls_among ss
    pub blocks : p.takes.blocks ≡ count
    pub many : (at : Numbers) → length (p.blocks at) ≡ count
    pub items : (at : Numbers) → Each OfItem (p.blocks at)
    pub ends : (at : Numbers) → Each (EndsBy (at.points + p.takes.points)) (p.blocks at)
    pub order : (at : Numbers) → AreThere at ss (p.blocks at) → Each (IsInOrder lists) (p.blocks at)
    pub stands : (at : Numbers) → AreThere at ss (p.blocks at) → (rest : List LoweredTask) (end : ℕ) → HavePoints lists rest (at.points + p.takes.points) end
        → HavePoints lists (p.task at ∷ rest) at.points end

  -- likewise statements one behind the other
  pub record AreGood (ps : List Piece) (ss : List Simple) (count : ℕ) : Type 0 where
    pub points : AreLines ss → (total ps).points ≡ points_among scope ss
    pub calls : (total ps).calls ≡ calls_among ss
    pub blocks : (total ps).blocks ≡ count
    pub many : (at : Numbers) → length (inner ps at) ≡ count
    pub items : (at : Numbers) → Each OfItem (inner ps at)
    pub ends : (at : Numbers) → Each (EndsBy (at.points + (total ps).points)) (inner ps at)
    pub order : (at : Numbers) → AreThere at ss (inner ps at) → Each (IsInOrder lists) (inner ps at)
    pub stand : (at : Numbers) → AreThere at ss (inner ps at) → HavePoints lists (each ps at) at.points (at.points + (total ps).points)

  at_end : (xs : List LoweredTask) (low m n : ℕ) → m ≡ n → HavePoints lists xs low m → HavePoints lists xs low n
  at_end xs low m n e h = subst (HavePoints lists xs low) e h

  from_start : (xs : List LoweredTask) (m n end : ℕ) → m ≡ n → HavePoints lists xs m end → HavePoints lists xs n end
  from_start xs m n end e h = subst (λ k. HavePoints lists xs k end) e h

  -- ---- one behind the other

  pub good_none : AreGood [] [] 0
  good_none = record {
    points = λ h. refl;
    calls = refl;
    blocks = refl;
    many = λ at. refl;
    items = λ at. tt;
    ends = λ at. tt;
    order = λ at h. tt;
    stand = λ at h. at_end [] at.points at.points (at.points + 0) (omega arith) layout.none;
  }

  module _ (p : Piece) (ps : List Piece) (ss ts : List Simple) (a b : ℕ) (own : Good p ss a) (rest : AreGood ps ts b) where
    abbrev next : Numbers → Numbers
    next at = moved at p.takes

    abbrev AllThere : Numbers → Type 0
    AllThere at = AreThere at (ss ++ ts) (p.blocks at ++ inner ps (next at))

    own_there : (at : Numbers) → AllThere at → AreThere at ss (p.blocks at)
    own_there at h = record {
      lines = (lines_apart ss ts h.lines).0;
      calls =
          front_part lists.calls at.calls (calls_from scope item at.points ss) (calls_from scope item (at.points + points_among scope ss) ts)
          (subst (IsPart lists.calls at.calls) (calls_apart scope item at.points ss ts) h.calls);
      inside = front_part lists.lowered_blocks at.blocks (p.blocks at) (inner ps (next at)) h.inside;
    }

    rest_there : (at : Numbers) → AllThere at → AreThere (next at) ts (inner ps (next at))
    rest_there at h =
        let lines = lines_apart ss ts h.lines in
        let size = own.points lines.0 in
        let count = calls_count scope item at.points ss in
        let calls = own.calls in
        let many = own.many at in
        let blocks = own.blocks in
        record {
          lines = lines.1;
          calls =
              subst (λ n. IsPart lists.calls (at.calls + p.takes.calls) (calls_from scope item (at.points + n) ts)) (sym size)
              (back_part lists.calls at.calls (at.calls + p.takes.calls) (calls_from scope item at.points ss) (calls_from scope item (at.points + points_among scope ss) ts)
              (omega (arith, count, calls))
              (subst (IsPart lists.calls at.calls) (calls_apart scope item at.points ss ts) h.calls));
          inside = back_part lists.lowered_blocks at.blocks (at.blocks + p.takes.blocks) (p.blocks at) (inner ps (next at)) (omega (arith, many, blocks)) h.inside;
        }

    pub good_more : AreGood (p ∷ ps) (ss ++ ts) (a + b)
    good_more = record {
      points = λ h.
          let lines = lines_apart ss ts h in
          let first = own.points lines.0 in
          let others = rest.points lines.1 in
          let all = among_both scope ss ts in
          omega (arith, first, others, all);
      calls = (let first = own.calls in let others = rest.calls in let all = calls_both ss ts in omega (arith, first, others, all));
      blocks = (let first = own.blocks in let others = rest.blocks in omega (arith, first, others));
      many = λ at.
          let first = own.many at in
          let others = rest.many (next at) in
          let all = length-append (p.blocks at) (inner ps (next at)) in
          omega (arith, first, others, all);
      items = λ at. both OfItem (p.blocks at) (inner ps (next at)) (own.items at) (rest.items (next at));
      ends = λ at.
          let end = at.points + (p.takes.points + (total ps).points) in
          both (EndsBy end) (p.blocks at) (inner ps (next at))
          (weaker (EndsBy (at.points + p.takes.points)) (EndsBy end) (λ x h. let le : x.first_point + x.points ≤ at.points + p.takes.points = h in omega (arith, le)) (p.blocks at) (own.ends at))
          (weaker (EndsBy (at.points + p.takes.points + (total ps).points)) (EndsBy end)
          (λ x h. let le : x.first_point + x.points ≤ at.points + p.takes.points + (total ps).points = h in omega (arith, le)) (inner ps (next at)) (rest.ends (next at)));
      order = λ at h. both (IsInOrder lists) (p.blocks at) (inner ps (next at)) (own.order at (own_there at h)) (rest.order (next at) (rest_there at h));
      stand = λ at h.
          let end = at.points + p.takes.points + (total ps).points in
          at_end (p.task at ∷ each ps (next at)) at.points end (at.points + (p.takes.points + (total ps).points)) (omega arith)
          (own.stands at (own_there at h) (each ps (next at)) end (rest.stand (next at) (rest_there at h)));
    }

  -- ---- form by form

  pub good_run : (ps : List Piece) (ss : List Simple) (n : ℕ) → AreGood ps ss n → Good (record { takes = total ps; task = λ at. tasks.Run (each ps at); blocks = inner ps }) ss n
  good_run ps ss n h = record {
    points = h.points;
    calls = h.calls;
    blocks = h.blocks;
    many = h.many;
    items = h.items;
    ends = h.ends;
    order = h.order;
    stands = λ at there rest end after. layout.run (each ps at) (at.points + (total ps).points) (tasks.outs-Run (each ps at)) (h.stand at there) after;
  }

  pub good_block : (ps : List Piece) (ss : List Simple) (n : ℕ) → AreGood ps ss n → Good (block_piece item ps) ss (1 + n)
  good_block ps ss n h = record {
    points = h.points;
    calls = h.calls;
    blocks = (let inside = h.blocks in omega (arith, inside));
    many = λ at. (let inside = h.many (behind at) in omega (arith, inside));
    items = λ at. (refl, h.items (behind at));
    ends = λ at. (omega arith, h.ends (behind at));
    order = λ at there. (h.stand (behind at) (later at there), h.order (behind at) (later at there));
    stands = λ at there rest end after. layout.block at.blocks (own at) (tasks.outs-Block at.blocks) (first at there) refl after;
  }
    where
      behind : Numbers → Numbers
      behind at = record at { blocks = at.blocks + 1 }

      own : Numbers → LoweredBlock
      own at = record { item = item; first_point = at.points; points = (total ps).points; body = each ps (behind at) }

      later : (at : Numbers) → AreThere at ss (own at ∷ inner ps (behind at)) → AreThere (behind at) ss (inner ps (behind at))
      later at there = record {
        lines = there.lines;
        calls = there.calls;
        inside = back_part lists.lowered_blocks at.blocks (at.blocks + 1) (own at ∷ []) (inner ps (behind at)) refl there.inside;
      }

      first : (at : Numbers) → AreThere at ss (own at ∷ inner ps (behind at)) → slice_get lists.lowered_blocks at.blocks ≡ Some (own at)
      first at there = let same : at.blocks + 0 ≡ at.blocks = omega arith in subst (λ k. slice_get lists.lowered_blocks k ≡ Some (own at)) same (there.inside.at 0 (own at) refl)

  pub good_wait : Good (leaf none (λ at. tasks.Wait)) [] 0
  good_wait = record {
    points = λ h. refl;
    calls = refl;
    blocks = refl;
    many = λ at. refl;
    items = λ at. tt;
    ends = λ at. tt;
    order = λ at h. tt;
    stands = λ at h rest end after. layout.wait tasks.outs-Wait (from_start rest (at.points + 0) at.points end (omega arith) after);
  }

  pub good_throw : (n : ℕ) → Good (leaf none (λ at. tasks.Throw (throw_code n))) (Throw n ∷ []) 0
  good_throw n = record {
    points = λ h. refl;
    calls = refl;
    blocks = refl;
    many = λ at. refl;
    items = λ at. tt;
    ends = λ at. tt;
    order = λ at h. tt;
    stands = λ at h rest end after. layout.throw (throw_code n) (tasks.outs-Throw (throw_code n)) (from_start rest (at.points + 0) at.points end (omega arith) after);
  }

  pub good_assign : (to : Cell) (x : Expr) → Good (assign_leaf x) (Assign to x ∷ []) 0
  good_assign to x = record {
    points = λ h. (let own = counted scope no_loop x in omega (arith, own));
    calls = refl;
    blocks = refl;
    many = λ at. refl;
    items = λ at. tt;
    ends = λ at. tt;
    order = λ at h. tt;
    stands = λ at h rest end after.
        layout.assign (record { first = at.points; write = at.points + reads x }) (tasks.outs-Assign (record { first = at.points; write = at.points + reads x })) refl (omega arith)
        (from_start rest (at.points + (reads x + 1)) (at.points + reads x + 1) end (omega arith) after);
  }

  -- a call or a loop
  called : (s : Simple) (policy : Policy) (positions : ℕ) → ((n : ℕ) → call_at scope item n s ≡ call_info item policy positions n (statement_piece scope s).size) → calls_in s ≡ 1
      → (AreLines (s ∷ []) → statement_points s ≡ points_among scope (s ∷ [])) → Good (call_leaf (statement_points s)) (s ∷ []) 0
  called s policy positions is one count = record {
    points = count;
    calls = omega (arith, one);
    blocks = refl;
    many = λ at. refl;
    items = λ at. tt;
    ends = λ at. tt;
    order = λ at h. tt;
    stands = λ at h rest end after.
        let there : slice_get lists.calls (at.calls + 0) ≡ Some (own at) = (subst (λ zs. IsPart lists.calls at.calls (zs ++ [])) (is at.points) h.calls).at 0 (own at) refl in
        let same : at.calls + 0 ≡ at.calls = omega arith in
        let points = count h.lines in
        layout.call at.calls (own at) (tasks.outs-Call at.calls) (subst (λ k. slice_get lists.calls k ≡ Some (own at)) same there) refl
        (from_start rest (at.points + statement_points s) (at.points + (statement_piece scope s).size) end (omega (arith, points)) after);
  }
    where
      own : Numbers → CallInfo
      own at = record { item = item; policy = policy; positions = positions; first_point = at.points; points = (statement_piece scope s).size }

  one_sum : (n : ℕ) → sum (n ∷ []) ≡ n
  one_sum n = omega arith

  pub good_call : (x : call.Call) → Good (call_leaf (statement_points (Call x))) (Call x ∷ []) 0
  good_call x =
      called (Call x) x.policy (line_of_range scope x.first).n (λ n. refl) refl (λ h. sym (points_counted scope (items.Call x) h ∙ one_sum (statement_points (Call x))))

  pub good_loop : (x : loops.Loop) → Good (call_leaf (statement_points (Loop x))) (Loop x ∷ []) 0
  good_loop x =
      called (Loop x) x.policy (space_of scope x).positions (λ n. refl) refl (λ h. sym (points_counted scope (items.Loop x) h ∙ one_sum (statement_points (Loop x))))
