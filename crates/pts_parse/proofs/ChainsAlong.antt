-- Chains of operators: each level is read along its rule, spelled by the signs that were read, and one that the grammar has.
use Rattle.std.proofs.Common.{◌≡◌, ℕ, ◌<◌, Bool, true, ◌&&◌, ◌==◌, nat_lt, List, [], ◌∷◌, map, Some, refl, sym, subst, ◌∙◌, ap, arith}
use Rattle.std.specs.List.{list_all}
use Rattle.std.specs.Cmp.Derive.{both_true}
use Rattle.std.proofs.lemmas.Bool.{lt-ltb, eqb-true, and_parts}
use Rattle.pts_types.specs.declared.operation.ScalarOp.{ScalarOp}
use Rattle.pts_types.specs.declared.operation.ScalarOp.TheVariants as ops
use Rattle.pts_tree.specs.declared.mark.Mark as mark
use Rattle.pts_tree.specs.declared.mark.Mark.TheVariants as m
use Rattle.pts_tree.specs.declared.sign.SignKind.{SignKind}
use Rattle.pts_tree.specs.declared.sign.SignKind.TheVariants as k
use Rattle.pts_tree.specs.declared.expr.Expr.{Expr}
use Rattle.pts_tree.specs.declared.expr.Expr.TheOpen.{Expr-F}
use Rattle.pts_tree.specs.declared.expr.ChainPart.{ChainPart}
use Rattle.pts_tree.specs.Marks.{place}
use Rattle.pts_tree.specs.Signs.{Sign, Mark}
use Rattle.pts_tree.specs.Spelling.{Text, each, word, optional}
use Rattle.pts_tree.specs.Expressions.{chain_mark, operator_level, Shape, Link, shape, link, shape_step, link_text, is_link, chain_allowed}
use Rattle.pts_tree.specs.Grammar.{Rule, The, Many, rows}
use Rattle.pts_tree.proofs.Shapes.{shape-Chain, link-is}
use Rattle.pts_parse.specs.declared.expressions.Level.{Level}
use Rattle.pts_parse.specs.declared.expressions.Level.TheVariants as levels
use Rattle.pts_parse.specs.Reading.{Parser, ahead, past}
use Rattle.pts_parse.specs.ExprReading.{una, operator, sees_operator, chain_part_by, chain_part, chain_parts, chained, chain_of, chain}
use Rattle.pts_parse.proofs.Tables.{first}
use Rattle.pts_parse.proofs.Passes.{Along, step, done}
use Rattle.pts_parse.proofs.Choices.{alone, no_choice, all_along, SeesRule}
use Rattle.pts_parse.proofs.SingleSigns.{behind}
use Rattle.pts_parse.proofs.CallsAlong.{Allowed}
use Rattle.pts_parse.proofs.OperandsAlong.{Leveled, ReadAt, shaped, wider, ReadInside, una_along}

-- ---- chains

-- the signs before are an operator of this level and its operand, and the signs behind them; and the grammar has the operand there
record Linked (level : ℕ) (before : List Sign) (x : Link) (after : List Sign) : Type 0 where
  pub text : before ≡ link_text x after
  pub allowed : is_link level x ≡ true

-- what was read of a part of a chain
abbrev PartAt : ℕ → List Sign → ChainPart → List Sign → Type 0
PartAt level before x after = Linked level before (link x) after

-- what was read of the parts of a chain
abbrev parts_text : List ChainPart → Text
parts_text xs tail = each link_text (map link xs) tail

abbrev parts_allowed : ℕ → List ChainPart → Bool
parts_allowed level xs = list_all (is_link level) (map link xs)

-- an operator that was looked at, and the operand behind it
linked : (level below : ℕ) (op : ScalarOp) (n : mark.Mark) → below < level → (operator_level op == level) ≡ true → chain_mark op ≡ Some n
    → (before mid : List Sign) → before ≡ Mark n ∷ mid → (x : Expr) (after : List Sign) → ReadAt below mid x after → PartAt level before (record { op = op; operand = x }) after
linked level below op n l o c before mid i x after q =
    subst (λ y. Linked level before y after) (sym (link-is (record { op = op; operand = x }))) (record {
      text = i ∙ ap (λ us. Mark n ∷ us) q.text ∙ ap (λ w. optional word w ((shape x).text after)) (sym c);
      allowed = both_true (both_true o (lt-ltb (shape x).level level (omega (arith, q.within, l)))) q.allowed;
    })

-- a first operand and a part, and more parts
chain_leveled : (level : ℕ) (before mid after : List Sign) (x : Shape) (y : Link) (ys : List Link) → x.level < level → x.allowed ≡ true → before ≡ x.text mid
    → mid ≡ each link_text (y ∷ ys) after → list_all (is_link level) (y ∷ ys) ≡ true → Leveled level before (shape_step (Expr-F.Chain x (y ∷ ys))) after
chain_leveled level before mid after x y ys l a p q b =
    let here = and_parts (is_link level y) (list_all (is_link level) ys) b in
    let two = and_parts (operator_level y.op == level && nat_lt y.operand.level level) y.operand.allowed here.0 in
    let one = and_parts (operator_level y.op == level) (nat_lt y.operand.level level) two.0 in
    let e = eqb-true (operator_level y.op) level one.0 in
    record {
      text = p ∙ ap x.text q;
      within = omega (arith, e);
      allowed = subst (λ n. chain_allowed n x (y ∷ ys) ≡ true) (sym e) (both_true (both_true (lt-ltb x.level level l) a) b);
    }

chained_leveled : (level below : ℕ) → below < level → (before mid after : List Sign) (x : Expr) (ys : List ChainPart) → ReadAt below before x mid
    → Allowed parts_text (parts_allowed level) mid ys after → ReadAt level before (chained x ys) after
chained_leveled level below l before mid after x [] p q = wider level (omega arith) (record { text = p.text ∙ ap (shape x).text q.text; within = p.within; allowed = p.allowed })
chained_leveled level below l before mid after x (y ∷ ys) p q =
    shaped (shape-Chain x (y ∷ ys)) (chain_leveled level before mid after (shape x) (link y) (map link ys) (omega (arith, p.within, l)) p.allowed p.text q.text q.allowed)

-- a chain of a level, from how its operands and parts are read
chain_of_along : {room : ℕ} (level : Level) (lower part rule : Rule) (at below : ℕ) (operand : Parser Expr) → below < at
    → rows rule ≡ (The lower ∷ Many part ∷ []) ∷ [] → SeesRule part (sees_operator level)
    → ((ts : List Sign) → Along (The lower ∷ []) room room (ReadAt below ts) ts (operand ts))
    → ((ts : List Sign) → Along (The part ∷ []) room room (PartAt at ts) ts (chain_part level operand ts))
    → (ts : List Sign) → Along (The rule ∷ []) room room (ReadAt at ts) ts (chain_of level operand ts)
unfolding chain_of chain_parts
chain_of_along level lower part rule at below operand l opened agrees o_along p_along ts =
    alone rule opened (
    step (o_along ts) (λ x p.
    step (all_along (PartAt at) (Allowed parts_text (parts_allowed at)) part agrees (λ us. p_along us) (λ us. record { text = refl; allowed = refl })
    (λ y ys before mid after q qs. record { text = q.text ∙ ap (link_text (link y)) qs.text; allowed = both_true q.allowed qs.allowed }) x.1) (λ ys q.
    done (chained_leveled at below l ts x.1 ys.1 x.0 ys.0 p q))))

-- ---- the three levels

module _ (room : ℕ) (operand : Parser Expr) where
  mul_part_by_along : ((ts : List Sign) → Along (The Rule.una ∷ []) room room (ReadAt 1 ts) ts (operand ts))
      → (x : SignKind) (ts : List Sign) → ahead ts ≡ x → Along (The Rule.mul_part ∷ []) room room (PartAt 2 ts) ts (chain_part_by (operator levels.Multiplying x) operand ts)
  unfolding rows first place operator
  mul_part_by_along a (k.Mark m.Star) ts e =
      alone Rule.mul_part refl (behind m.Star ts e refl refl (λ i. step (a (past ts)) (λ x q. done (linked 2 1 ops.Multiplies m.Star (omega arith) refl refl ts (past ts) i x.0 x.1 q))))
  mul_part_by_along a (k.Mark m.Slash) ts e =
      alone Rule.mul_part refl (behind m.Slash ts e refl refl (λ i. step (a (past ts)) (λ x q. done (linked 2 1 ops.Divides m.Slash (omega arith) refl refl ts (past ts) i x.0 x.1 q))))
  mul_part_by_along a (k.Mark m.Percent) ts e =
      alone Rule.mul_part refl (behind m.Percent ts e refl refl (λ i. step (a (past ts)) (λ x q. done (linked 2 1 ops.Modulus m.Percent (omega arith) refl refl ts (past ts) i x.0 x.1 q))))
  mul_part_by_along a _ ts e = no_choice Rule.mul_part e refl

  add_part_by_along : ((ts : List Sign) → Along (The Rule.mul ∷ []) room room (ReadAt 2 ts) ts (operand ts))
      → (x : SignKind) (ts : List Sign) → ahead ts ≡ x → Along (The Rule.add_part ∷ []) room room (PartAt 3 ts) ts (chain_part_by (operator levels.Adding x) operand ts)
  unfolding rows first place operator
  add_part_by_along a (k.Mark m.PlusSign) ts e =
      alone Rule.add_part refl (behind m.PlusSign ts e refl refl (λ i. step (a (past ts)) (λ x q. done (linked 3 2 ops.Plus m.PlusSign (omega arith) refl refl ts (past ts) i x.0 x.1 q))))
  add_part_by_along a (k.Mark m.MinusSign) ts e =
      alone Rule.add_part refl (behind m.MinusSign ts e refl refl (λ i. step (a (past ts)) (λ x q. done (linked 3 2 ops.Minus m.MinusSign (omega arith) refl refl ts (past ts) i x.0 x.1 q))))
  add_part_by_along a _ ts e = no_choice Rule.add_part e refl

  bit_part_by_along : ((ts : List Sign) → Along (The Rule.add ∷ []) room room (ReadAt 3 ts) ts (operand ts))
      → (x : SignKind) (ts : List Sign) → ahead ts ≡ x → Along (The Rule.bit_part ∷ []) room room (PartAt 4 ts) ts (chain_part_by (operator levels.Bitwise x) operand ts)
  unfolding rows first place operator
  bit_part_by_along a (k.Mark m.Ampersand) ts e =
      alone Rule.bit_part refl (behind m.Ampersand ts e refl refl (λ i. step (a (past ts)) (λ x q. done (linked 4 3 ops.BitAnd m.Ampersand (omega arith) refl refl ts (past ts) i x.0 x.1 q))))
  bit_part_by_along a (k.Mark m.Bar) ts e =
      alone Rule.bit_part refl (behind m.Bar ts e refl refl (λ i. step (a (past ts)) (λ x q. done (linked 4 3 ops.BitOr m.Bar (omega arith) refl refl ts (past ts) i x.0 x.1 q))))
  bit_part_by_along a (k.Mark m.Caret) ts e =
      alone Rule.bit_part refl (behind m.Caret ts e refl refl (λ i. step (a (past ts)) (λ x q. done (linked 4 3 ops.BitXor m.Caret (omega arith) refl refl ts (past ts) i x.0 x.1 q))))
  bit_part_by_along a _ ts e = no_choice Rule.bit_part e refl

sees_mul : SeesRule Rule.mul_part (sees_operator levels.Multiplying)
unfolding sees_operator operator first place
sees_mul (k.Mark m.Star) = refl
sees_mul (k.Mark m.Slash) = refl
sees_mul (k.Mark m.Percent) = refl
sees_mul _ = refl

sees_add : SeesRule Rule.add_part (sees_operator levels.Adding)
unfolding sees_operator operator first place
sees_add (k.Mark m.PlusSign) = refl
sees_add (k.Mark m.MinusSign) = refl
sees_add _ = refl

sees_bit : SeesRule Rule.bit_part (sees_operator levels.Bitwise)
unfolding sees_operator operator first place
sees_bit (k.Mark m.Ampersand) = refl
sees_bit (k.Mark m.Bar) = refl
sees_bit (k.Mark m.Caret) = refl
sees_bit _ = refl

-- from the strongest operators on
module _ (room : ℕ) (inner : Parser Expr) (inner_along : ReadInside room inner) where
  mul_along : (ts : List Sign) → Along (The Rule.mul ∷ []) room room (ReadAt 2 ts) ts (chain_of levels.Multiplying (una room inner) ts)
  unfolding rows chain_part
  mul_along ts =
      chain_of_along levels.Multiplying Rule.una Rule.mul_part Rule.mul 2 1 (una room inner) (omega arith) refl sees_mul (λ us. una_along room inner inner_along us)
      (λ us. mul_part_by_along room (una room inner) (λ vs. una_along room inner inner_along vs) (ahead us) us refl) ts

  add_along : (ts : List Sign) → Along (The Rule.add ∷ []) room room (ReadAt 3 ts) ts (chain_of levels.Adding (chain_of levels.Multiplying (una room inner)) ts)
  unfolding rows chain_part
  add_along ts =
      chain_of_along levels.Adding Rule.mul Rule.add_part Rule.add 3 2 (chain_of levels.Multiplying (una room inner)) (omega arith) refl sees_add (λ us. mul_along us)
      (λ us. add_part_by_along room (chain_of levels.Multiplying (una room inner)) (λ vs. mul_along vs) (ahead us) us refl) ts

  pub bit_along : (ts : List Sign) → Along (The Rule.bit ∷ []) room room (ReadAt 4 ts) ts (chain levels.Bitwise room inner ts)
  unfolding rows chain_part
  bit_along ts =
      chain_of_along levels.Bitwise Rule.add Rule.bit_part Rule.bit 4 3 (chain_of levels.Adding (chain_of levels.Multiplying (una room inner))) (omega arith) refl sees_bit (λ us. add_along us)
      (λ us. bit_part_by_along room (chain_of levels.Adding (chain_of levels.Multiplying (una room inner))) (λ vs. add_along vs) (ahead us) us refl) ts
