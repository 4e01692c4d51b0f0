-- The kinds of signs by which each rule begins, and those by which it may go on where it could stop; and that the next sign tells which alternative goes on.
use Rattle.std.proofs.Common.{◌≡◌, ℕ, suc, Bool, true, false, ◌&&◌, ◌||◌, not, List, [], ◌∷◌, ◌++◌, map, refl}
use Rattle.std.specs.List.{list_all}
use Rattle.pts_tree.specs.declared.mark.Mark.{Mark}
use Rattle.pts_tree.specs.declared.mark.Mark.TheVariants as m
use Rattle.pts_tree.specs.declared.sign.SignKind.{SignKind}
use Rattle.pts_tree.specs.declared.sign.SignKind.TheVariants as k
use Rattle.pts_tree.specs.Marks.{place}
use Rattle.pts_tree.specs.Grammar.{Rule, Part, Row, One, The, Maybe, Many, rows, has}

-- ---- the tables

-- the kinds of these words and symbols
abbrev pub kinds_of : List Mark → List SignKind
kinds_of ms = map (λ n. k.Mark n) ms

abbrev pub call_words : List SignKind
call_words =
    kinds_of (m.ForEach ∷ m.Transform ∷ m.FindIf ∷ m.CountIf ∷ m.Reduce ∷ m.TransformReduce ∷ m.InclusiveScan ∷ m.ExclusiveScan
    ∷ m.TransformInclusiveScan ∷ m.TransformExclusiveScan ∷ [])

abbrev pub first_of_rstmt : List SignKind
first_of_rstmt = k.Name ∷ kinds_of (m.Throw ∷ m.ForLoop ∷ m.TaskBlock ∷ []) ++ call_words

abbrev pub first_of_item : List SignKind
first_of_item = kinds_of (m.Const ∷ m.Array ∷ m.Function ∷ m.ForLoop ∷ m.TaskBlock ∷ m.Print ∷ []) ++ call_words

abbrev pub first_of_prim : List SignKind
first_of_prim = k.Number ∷ k.One ∷ k.Name ∷ kinds_of (m.True ∷ m.False ∷ m.I64 ∷ m.U64 ∷ m.Bool ∷ m.Throw ∷ m.OpenParen ∷ [])

abbrev pub first_of_una : List SignKind
first_of_una = k.Mark m.MinusSign ∷ k.Mark m.Exclamation ∷ first_of_prim

-- the kinds by which a rule begins
unfoldable pub first : Rule → List SignKind
first Rule.script = k.Mark m.Pts ∷ []
first Rule.item = first_of_item
first Rule.decl = kinds_of (m.Const ∷ m.Array ∷ m.Function ∷ [])
first Rule.next_param = k.Mark m.Comma ∷ []
first Rule.param = k.Name ∷ []
first Rule.kind = kinds_of (m.I64 ∷ m.U64 ∷ m.Bool ∷ [])
first Rule.start = kinds_of (m.List ∷ m.Fill ∷ m.Iota ∷ m.Mix ∷ [])
first Rule.next_val = k.Mark m.Comma ∷ []
first Rule.minus = k.Mark m.MinusSign ∷ []
first Rule.sum = k.Mark m.MinusSign ∷ k.Number ∷ k.One ∷ k.Name ∷ []
first Rule.sum_part = kinds_of (m.PlusSign ∷ m.MinusSign ∷ [])
first Rule.atom = k.Number ∷ k.One ∷ k.Name ∷ []
first Rule.val = k.Mark m.MinusSign ∷ k.Number ∷ k.One ∷ k.Name ∷ k.Mark m.True ∷ k.Mark m.False ∷ []
first Rule.stmt = kinds_of (m.ForLoop ∷ m.TaskBlock ∷ m.Print ∷ []) ++ call_words
first Rule.policy = kinds_of (m.Seq ∷ m.Par ∷ m.ParUnseq ∷ m.Unseq ∷ m.Vector ∷ [])
first Rule.second_range = k.Mark m.Comma ∷ []
first Rule.range = k.Name ∷ []
first Rule.cell = k.Name ∷ []
first Rule.op = k.Name ∷ kinds_of (m.Plus ∷ m.Multiplies ∷ m.BitAnd ∷ m.BitOr ∷ m.BitXor ∷ m.Min ∷ m.Max ∷ [])
first Rule.into = k.Mark m.Into ∷ []
first Rule.init_part = k.Mark m.Init ∷ []
first Rule.call = call_words
first Rule.loop = k.Mark m.ForLoop ∷ []
first Rule.step_part = k.Mark m.Step ∷ []
first Rule.clause = kinds_of (m.Reduce ∷ m.Induct ∷ [])
first Rule.identity_part = k.Mark m.Identity ∷ []
first Rule.initial = k.Name ∷ k.Number ∷ k.One ∷ kinds_of (m.MinusSign ∷ m.True ∷ m.False ∷ [])
first Rule.initial_rest = kinds_of (m.OpenBracket ∷ m.PlusSign ∷ m.MinusSign ∷ [])
first Rule.bstmt = k.Name ∷ kinds_of (m.Let ∷ m.If ∷ m.VecOff ∷ m.Ordered ∷ [])
first Rule.name_stmt = kinds_of (m.OpenBracket ∷ m.TildeEqual ∷ [])
first Rule.else_part = k.Mark m.Else ∷ []
first Rule.upd = kinds_of (m.PlusEqual ∷ m.MinusEqual ∷ m.StarEqual ∷ m.AmpersandEqual ∷ m.BarEqual ∷ m.CaretEqual ∷ [])
first Rule.block = k.Mark m.TaskBlock ∷ []
first Rule.tstmt = k.Mark m.Run ∷ k.Mark m.Wait ∷ first_of_rstmt
first Rule.rstmt = first_of_rstmt
first Rule.expr = k.Mark m.If ∷ first_of_una
first Rule.or = first_of_una
first Rule.or_part = k.Mark m.BarBar ∷ []
first Rule.and = first_of_una
first Rule.and_part = k.Mark m.AmpersandAmpersand ∷ []
first Rule.cmp = first_of_una
first Rule.cmp_part = kinds_of (m.EqualEqual ∷ m.ExclamationEqual ∷ m.Less ∷ m.LessEqual ∷ m.Greater ∷ m.GreaterEqual ∷ [])
first Rule.bit = first_of_una
first Rule.bit_part = kinds_of (m.Ampersand ∷ m.Bar ∷ m.Caret ∷ [])
first Rule.add = first_of_una
first Rule.add_part = kinds_of (m.PlusSign ∷ m.MinusSign ∷ [])
first Rule.mul = first_of_una
first Rule.mul_part = kinds_of (m.Star ∷ m.Slash ∷ m.Percent ∷ [])
first Rule.una = first_of_una
first Rule.prim = first_of_prim
first Rule.next_argument = k.Mark m.Comma ∷ []
first Rule.name_rest = kinds_of (m.OpenParen ∷ m.OpenBracket ∷ [])

abbrev pub signs_of_sum : List SignKind
signs_of_sum = kinds_of (m.PlusSign ∷ m.MinusSign ∷ [])

-- the operators that may follow an operand, from the strongest ones on
abbrev pub behind_una : List SignKind
behind_una = kinds_of (m.OpenParen ∷ m.OpenBracket ∷ [])

abbrev pub behind_mul : List SignKind
behind_mul = kinds_of (m.Star ∷ m.Slash ∷ m.Percent ∷ []) ++ behind_una

abbrev pub behind_add : List SignKind
behind_add = kinds_of (m.PlusSign ∷ m.MinusSign ∷ []) ++ behind_mul

abbrev pub behind_bit : List SignKind
behind_bit = kinds_of (m.Ampersand ∷ m.Bar ∷ m.Caret ∷ []) ++ behind_add

abbrev pub behind_cmp : List SignKind
behind_cmp = kinds_of (m.EqualEqual ∷ m.ExclamationEqual ∷ m.Less ∷ m.LessEqual ∷ m.Greater ∷ m.GreaterEqual ∷ []) ++ behind_bit

abbrev pub behind_and : List SignKind
behind_and = k.Mark m.AmpersandAmpersand ∷ behind_cmp

abbrev pub behind_or : List SignKind
behind_or = k.Mark m.BarBar ∷ behind_and

-- the kinds by which a rule may go on where it could stop
unfoldable pub tail : Rule → List SignKind
tail Rule.script = first_of_item
tail Rule.start = k.Mark m.Comma ∷ signs_of_sum
tail Rule.next_val = signs_of_sum
tail Rule.sum = signs_of_sum
tail Rule.val = signs_of_sum
tail Rule.init_part = signs_of_sum
tail Rule.step_part = signs_of_sum
tail Rule.clause = k.Mark m.OpenBracket ∷ k.Mark m.Step ∷ signs_of_sum
tail Rule.identity_part = signs_of_sum
tail Rule.initial = k.Mark m.OpenBracket ∷ signs_of_sum
tail Rule.initial_rest = signs_of_sum
tail Rule.bstmt = k.Mark m.Else ∷ []
tail Rule.expr = behind_or
tail Rule.or = behind_or
tail Rule.or_part = behind_and
tail Rule.and = behind_and
tail Rule.and_part = behind_cmp
tail Rule.cmp = behind_cmp
tail Rule.cmp_part = behind_bit
tail Rule.bit = behind_bit
tail Rule.bit_part = behind_add
tail Rule.add = behind_add
tail Rule.add_part = behind_mul
tail Rule.mul = behind_mul
tail Rule.mul_part = behind_una
tail Rule.una = behind_una
tail Rule.prim = behind_una
tail Rule.next_argument = behind_or
tail _ = []

-- ---- what the tables say of rows

-- none of these kinds is one of those
abbrev pub apart : List SignKind → List SignKind → Bool
apart ks others = list_all (λ x. not (has others x)) ks

-- each of these kinds is one of those
abbrev pub inside : List SignKind → List SignKind → Bool
inside ks others = list_all (λ x. has others x) ks

-- the kinds by which a row begins
abbrev pub begins : Row → List SignKind
begins [] = []
begins (One ks ∷ row) = ks
begins (The r ∷ row) = first r
begins (Maybe r ∷ row) = first r ++ begins row
begins (Many r ∷ row) = first r ++ begins row

-- the fewest signs of a row
abbrev pub least : Row → ℕ
least [] = 0
least (One ks ∷ row) = suc (least row)
least (The r ∷ row) = suc (least row)
least (Maybe r ∷ row) = least row
least (Many r ∷ row) = least row

-- a row has a part that cannot be left out
abbrev pub solid : Row → Bool
solid [] = false
solid (One ks ∷ row) = true
solid (The r ∷ row) = true
solid (Maybe r ∷ row) = solid row
solid (Many r ∷ row) = solid row

-- the kinds by which a part may go on where it could stop
abbrev pub goes_on : Part → List SignKind
goes_on (One ks) = []
goes_on (The r) = tail r
goes_on (Maybe r) = first r ++ tail r
goes_on (Many r) = first r ++ tail r

-- a part that is repeated starts apart from what it may go on by itself
abbrev pub repeats : Part → Bool
repeats (One ks) = true
repeats (The r) = true
repeats (Maybe r) = true
repeats (Many r) = apart (tail r) (first r)

-- behind each part the row starts apart from what the part may go on by
abbrev pub lawful : Row → Bool
lawful [] = true
lawful (p ∷ row) = repeats p && apart (goes_on p) (begins row) && lawful row

-- the kinds by which a row may go on where it could stop are among these
abbrev pub ends_within : List SignKind → Row → Bool
ends_within ks [] = true
ends_within ks (p ∷ row) = (solid row || inside (goes_on p) ks) && ends_within ks row

-- rows start apart
abbrev pub rows_apart : List Row → Bool
rows_apart [] = true
rows_apart (row ∷ others) = list_all (λ other. apart (begins row) (begins other)) others && rows_apart others

-- an alternative is one of this rule by the tables
abbrev pub row_fits : Rule → Row → Bool
row_fits r row = solid row && inside (begins row) (first r) && lawful row && ends_within (tail r) row

abbrev pub rows_fit : Rule → List Row → Bool
rows_fit r opened = rows_apart opened && list_all (row_fits r) opened && not (has (first r) k.End)

pub fits : (r : Rule) → rows_fit r (rows r) ≡ true
unfolding rows first tail place
fits Rule.script = refl
fits _ = refl
