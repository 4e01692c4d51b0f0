-- The rules that one sign of look-ahead can follow, and the rules as they are written, have the same spellings and the same beginnings.
use Rattle.std.proofs.Common.{◌≡◌, ◌↔◌, inl, inr, Bool, true, false, List, [], ◌∷◌, ◌++◌, refl, subst}
use Rattle.pts_tree.specs.declared.mark.Mark.TheVariants as m
use Rattle.pts_tree.specs.declared.sign.SignKind.{SignKind}
use Rattle.pts_tree.specs.declared.sign.SignKind.TheVariants as k
use Rattle.pts_tree.specs.Signs.{Sign, kind_of}
use Rattle.pts_tree.specs.Grammar.{Rule, Row, One, The, Maybe, Many, mark, name, number, rows, written, has, Among, Matches, whole, ends, sign, opens, without, with_it, no_more, one_more}
use Rattle.pts_tree.specs.Grammar.{sum, sum_part, atom, minus, val, cell, initial, initial_rest, bstmt, name_stmt, expr, prim, next_argument, name_rest}

-- what an alternative under one set of rules matches, its rule matches under the other
Admits : (Rule → List Row) → (Rule → List Row) → Type 0
Admits from to = (r : Rule) (v : Bool) (opened row : Row) (ts : List Sign) → Among opened (from r) → Matches to v (opened ++ row) ts → Matches to v (The r ∷ row) ts

carry : (from to : Rule → List Row) → Admits from to → (v : Bool) (row : Row) (ts : List Sign) → Matches from v row ts → Matches to v row ts
unfolding Admits
carry from to a _ _ _ whole = whole
carry from to a _ _ _ ends = ends
carry from to a v _ _ (sign {row = row} {ts = ts} h p) = sign h (carry from to a v row ts p)
carry from to a v _ ts (opens {r = r} {row = row} opened among p) = a r v opened row ts among (carry from to a v (opened ++ row) ts p)
carry from to a v _ ts (without {row = row} p) = without (carry from to a v row ts p)
carry from to a v _ ts (with_it {r = r} {row = row} p) = with_it (carry from to a v (The r ∷ row) ts p)
carry from to a v _ ts (no_more {row = row} p) = no_more (carry from to a v row ts p)
carry from to a v _ ts (one_more {r = r} {row = row} p) = one_more (carry from to a v (The r ∷ Many r ∷ row) ts p)

-- the alternative is this one
is : {rules : Rule → List Row} {v : Bool} (row : Row) {ts : List Sign} {opened this : Row} → opened ≡ this → Matches rules v (opened ++ row) ts → Matches rules v (this ++ row) ts
is {rules} {v} row {ts} e p = subst (λ o. Matches rules v (o ++ row) ts) e p

-- ---- one part taken off the front

-- what begins with a sign is nothing, or the sign and what follows
data FromSign (rules : Rule → List Row) (ks : List SignKind) (row : Row) : Bool → List Sign → Type 0 where
  no_sign : FromSign rules ks row false []
  one_sign : {v : Bool} {t : Sign} {ts : List Sign} → has ks (kind_of t) ≡ true → Matches rules v row ts → FromSign rules ks row v (t ∷ ts)

from_sign : {rules : Rule → List Row} (ks : List SignKind) (row : Row) (v : Bool) (ts : List Sign) → Matches rules v (One ks ∷ row) ts → FromSign rules ks row v ts
from_sign ks row _ _ ends = no_sign
from_sign ks row v _ (sign h p) = one_sign h p

-- what begins with a rule is nothing, or one of its alternatives and what follows
data FromRule (rules : Rule → List Row) (r : Rule) (row : Row) : Bool → List Sign → Type 0 where
  no_rule : FromRule rules r row false []
  one_rule : {v : Bool} {ts : List Sign} (opened : Row) → Among opened (rules r) → Matches rules v (opened ++ row) ts → FromRule rules r row v ts

from_rule : {rules : Rule → List Row} (r : Rule) (row : Row) (v : Bool) (ts : List Sign) → Matches rules v (The r ∷ row) ts → FromRule rules r row v ts
from_rule r row _ _ ends = no_rule
from_rule r row v ts (opens opened among p) = one_rule opened among p

-- what begins with an optional rule is nothing, or goes on without it, or with it
data FromMaybe (rules : Rule → List Row) (r : Rule) (row : Row) : Bool → List Sign → Type 0 where
  no_part : FromMaybe rules r row false []
  skipped : {v : Bool} {ts : List Sign} → Matches rules v row ts → FromMaybe rules r row v ts
  taken : {v : Bool} {ts : List Sign} → Matches rules v (The r ∷ row) ts → FromMaybe rules r row v ts

from_maybe : {rules : Rule → List Row} (r : Rule) (row : Row) (v : Bool) (ts : List Sign) → Matches rules v (Maybe r ∷ row) ts → FromMaybe rules r row v ts
from_maybe r row _ _ ends = no_part
from_maybe r row v ts (without p) = skipped p
from_maybe r row v ts (with_it p) = taken p

-- what begins with a repeated rule is nothing, or goes on without more of it, or with one more
data FromMany (rules : Rule → List Row) (r : Rule) (row : Row) : Bool → List Sign → Type 0 where
  no_parts : FromMany rules r row false []
  stopped : {v : Bool} {ts : List Sign} → Matches rules v row ts → FromMany rules r row v ts
  again : {v : Bool} {ts : List Sign} → Matches rules v (The r ∷ Many r ∷ row) ts → FromMany rules r row v ts

from_many : {rules : Rule → List Row} (r : Rule) (row : Row) (v : Bool) (ts : List Sign) → Matches rules v (Many r ∷ row) ts → FromMany rules r row v ts
from_many r row _ _ ends = no_parts
from_many r row v ts (no_more p) = stopped p
from_many r row v ts (one_more p) = again p

-- ---- from the rules of one sign of look-ahead to those that are written

-- a sum that a name begins
name_first : (v : Bool) (row : Row) (t : Sign) (ts : List Sign) → has (k.Name ∷ []) (kind_of t) ≡ true → Matches written v (Many sum_part ∷ row) ts → Matches written v (The initial ∷ row) (t ∷ ts)
unfolding written rows
name_first v row t ts h p =
    opens (The val ∷ []) (inl refl) (opens (The sum ∷ []) (inl refl) (opens (Maybe minus ∷ The atom ∷ Many sum_part ∷ []) (inl refl)
    (without (opens (name ∷ []) (inr (inl refl)) (sign h p)))))

initial_rest_after : (v : Bool) (row : Row) (t : Sign) (ts : List Sign) → has (k.Name ∷ []) (kind_of t) ≡ true → FromRule written initial_rest row v ts → Matches written v (The initial ∷ row) (t ∷ ts)
unfolding written rows
initial_rest_after _ row t _ h no_rule = name_first false row t [] h ends
initial_rest_after v row t ts h (one_rule opened (inl e) p) =
    opens (The cell ∷ []) (inr (inl refl)) (opens (name ∷ mark m.OpenBracket ∷ The sum ∷ mark m.CloseBracket ∷ []) (inl refl) (sign h (is _ e p)))
initial_rest_after v row t ts h (one_rule opened (inr (inl e)) p) = name_first v row t ts h (one_more (is _ e p))
initial_rest_after v row t ts h (one_rule opened (inr (inr x)) p) = elim x [ ]

initial_after : (v : Bool) (row : Row) (t : Sign) (ts : List Sign) → has (k.Name ∷ []) (kind_of t) ≡ true → FromMaybe written initial_rest row v ts → Matches written v (The initial ∷ row) (t ∷ ts)
initial_after _ row t _ h no_part = name_first false row t [] h ends
initial_after v row t ts h (skipped p) = name_first v row t ts h (no_more p)
initial_after v row t ts h (taken p) = initial_rest_after v row t ts h (from_rule initial_rest row v ts p)

initial_name : (v : Bool) (row : Row) (ts : List Sign) → FromSign written (k.Name ∷ []) (Maybe initial_rest ∷ row) v ts → Matches written v (The initial ∷ row) ts
initial_name _ row _ no_sign = ends
initial_name v row _ (one_sign {t = t} {ts = ts} h p) = initial_after v row t ts h (from_maybe initial_rest row v ts p)

sum_first : (v : Bool) (row opened : Row) (ts : List Sign) → Among opened (rows atom) → Matches written v (opened ++ Many sum_part ∷ row) ts → Matches written v (The initial ∷ row) ts
unfolding written rows
sum_first v row opened ts a p =
    opens (The val ∷ []) (inl refl) (opens (The sum ∷ []) (inl refl) (opens (Maybe minus ∷ The atom ∷ Many sum_part ∷ []) (inl refl) (without (opens opened a p))))

to_initial : (v : Bool) (opened row : Row) (ts : List Sign) → Among opened (rows initial) → Matches written v (opened ++ row) ts → Matches written v (The initial ∷ row) ts
unfolding written rows
to_initial v opened row ts (inl e) p = initial_name v row ts (from_sign (k.Name ∷ []) (Maybe initial_rest ∷ row) v ts (is _ e p))
to_initial v opened row ts (inr (inl e)) p = sum_first v row (number ∷ []) ts (inl refl) (is _ e p)
to_initial v opened row ts (inr (inr (inl e))) p =
    opens (The val ∷ []) (inl refl) (opens (The sum ∷ []) (inl refl) (opens (Maybe minus ∷ The atom ∷ Many sum_part ∷ []) (inl refl)
    (with_it (opens (mark m.MinusSign ∷ []) (inl refl) (is _ e p)))))
to_initial v opened row ts (inr (inr (inr (inl e)))) p = opens (The val ∷ []) (inl refl) (opens (mark m.True ∷ []) (inr (inl refl)) (is _ e p))
to_initial v opened row ts (inr (inr (inr (inr (inl e))))) p = opens (The val ∷ []) (inl refl) (opens (mark m.False ∷ []) (inr (inr (inl refl))) (is _ e p))
to_initial v opened row ts (inr (inr (inr (inr (inr x))))) p = elim x [ ]

name_stmt_after : (v : Bool) (row : Row) (t : Sign) (ts : List Sign) → has (k.Name ∷ []) (kind_of t) ≡ true → FromRule written name_stmt row v ts → Matches written v (The bstmt ∷ row) (t ∷ ts)
unfolding written rows
name_stmt_after _ row t _ h no_rule = opens _ (inl refl) (sign h ends)
name_stmt_after v row t ts h (one_rule opened (inl e) p) = opens _ (inl refl) (sign h (is _ e p))
name_stmt_after v row t ts h (one_rule opened (inr (inl e)) p) = opens _ (inr (inr (inl refl))) (sign h (is _ e p))
name_stmt_after v row t ts h (one_rule opened (inr (inr x)) p) = elim x [ ]

bstmt_name : (v : Bool) (row : Row) (ts : List Sign) → FromSign written (k.Name ∷ []) (The name_stmt ∷ row) v ts → Matches written v (The bstmt ∷ row) ts
bstmt_name _ row _ no_sign = ends
bstmt_name v row _ (one_sign {t = t} {ts = ts} h p) = name_stmt_after v row t ts h (from_rule name_stmt row v ts p)

to_bstmt : (v : Bool) (opened row : Row) (ts : List Sign) → Among opened (rows bstmt) → Matches written v (opened ++ row) ts → Matches written v (The bstmt ∷ row) ts
unfolding written rows
to_bstmt v opened row ts (inl e) p = bstmt_name v row ts (from_sign (k.Name ∷ []) (The name_stmt ∷ row) v ts (is _ e p))
to_bstmt v opened row ts (inr (inl e)) p = opens opened (inr (inl e)) p
to_bstmt v opened row ts (inr (inr a)) p = opens opened (inr (inr (inr a))) p

name_rest_after : (v : Bool) (row : Row) (t : Sign) (ts : List Sign) → has (k.Name ∷ []) (kind_of t) ≡ true → FromRule written name_rest row v ts → Matches written v (The prim ∷ row) (t ∷ ts)
unfolding written rows
name_rest_after _ row t _ h no_rule = opens _ (inr (inr (inr (inl refl)))) (sign h ends)
name_rest_after v row t ts h (one_rule opened (inl e) p) = opens _ (inr (inr (inr (inr (inl refl))))) (sign h (is _ e p))
name_rest_after v row t ts h (one_rule opened (inr (inl e)) p) = opens _ (inr (inr (inr (inr (inr (inl refl)))))) (sign h (is _ e p))
name_rest_after v row t ts h (one_rule opened (inr (inr x)) p) = elim x [ ]

prim_after : (v : Bool) (row : Row) (t : Sign) (ts : List Sign) → has (k.Name ∷ []) (kind_of t) ≡ true → FromMaybe written name_rest row v ts → Matches written v (The prim ∷ row) (t ∷ ts)
unfolding written rows
prim_after _ row t _ h no_part = opens _ (inr (inr (inr (inl refl)))) (sign h ends)
prim_after v row t ts h (skipped p) = opens _ (inr (inr (inr (inl refl)))) (sign h p)
prim_after v row t ts h (taken p) = name_rest_after v row t ts h (from_rule name_rest row v ts p)

prim_name : (v : Bool) (row : Row) (ts : List Sign) → FromSign written (k.Name ∷ []) (Maybe name_rest ∷ row) v ts → Matches written v (The prim ∷ row) ts
prim_name _ row _ no_sign = ends
prim_name v row _ (one_sign {t = t} {ts = ts} h p) = prim_after v row t ts h (from_maybe name_rest row v ts p)

to_prim : (v : Bool) (opened row : Row) (ts : List Sign) → Among opened (rows prim) → Matches written v (opened ++ row) ts → Matches written v (The prim ∷ row) ts
unfolding written rows
to_prim v opened row ts (inl e) p = opens opened (inl e) p
to_prim v opened row ts (inr (inl e)) p = opens opened (inr (inl e)) p
to_prim v opened row ts (inr (inr (inl e))) p = opens opened (inr (inr (inl e))) p
to_prim v opened row ts (inr (inr (inr (inl e)))) p = prim_name v row ts (from_sign (k.Name ∷ []) (Maybe name_rest ∷ row) v ts (is _ e p))
to_prim v opened row ts (inr (inr (inr (inr a)))) p = opens opened (inr (inr (inr (inr (inr (inr a)))))) p

to_written : Admits rows written
unfolding rows written Admits
to_written initial v opened row ts a p = to_initial v opened row ts a p
to_written bstmt v opened row ts a p = to_bstmt v opened row ts a p
to_written prim v opened row ts a p = to_prim v opened row ts a p
to_written _ v opened row ts a p = opens opened a p

-- ---- from the rules that are written to those of one sign of look-ahead

name_goes_on : (v : Bool) (row : Row) (t : Sign) (ts : List Sign) → has (k.Name ∷ []) (kind_of t) ≡ true → FromMany rows sum_part row v ts → Matches rows v (The initial ∷ row) (t ∷ ts)
unfolding rows
name_goes_on _ row t _ h no_parts = opens (name ∷ Maybe initial_rest ∷ []) (inl refl) (sign h ends)
name_goes_on v row t ts h (stopped p) = opens (name ∷ Maybe initial_rest ∷ []) (inl refl) (sign h (without p))
name_goes_on v row t ts h (again p) =
    opens (name ∷ Maybe initial_rest ∷ []) (inl refl) (sign h (with_it (opens (The sum_part ∷ Many sum_part ∷ []) (inr (inl refl)) p)))

written_name : (v : Bool) (row : Row) (ts : List Sign) → FromSign rows (k.Name ∷ []) (Many sum_part ∷ row) v ts → Matches rows v (The initial ∷ row) ts
written_name _ row _ no_sign = ends
written_name v row _ (one_sign {t = t} {ts = ts} h p) = name_goes_on v row t ts h (from_many sum_part row v ts p)

written_atom : (v : Bool) (row : Row) (ts : List Sign) → FromRule rows atom (Many sum_part ∷ row) v ts → Matches rows v (The initial ∷ row) ts
unfolding rows
written_atom _ row _ no_rule = ends
written_atom v row ts (one_rule opened (inl e) p) = opens (number ∷ Many sum_part ∷ []) (inr (inl refl)) (is _ e p)
written_atom v row ts (one_rule opened (inr (inl e)) p) = written_name v row ts (from_sign (k.Name ∷ []) (Many sum_part ∷ row) v ts (is _ e p))
written_atom v row ts (one_rule opened (inr (inr x)) p) = elim x [ ]

written_minus : (v : Bool) (row : Row) (ts : List Sign) → FromRule rows minus (The atom ∷ Many sum_part ∷ row) v ts → Matches rows v (The initial ∷ row) ts
unfolding rows
written_minus _ row _ no_rule = ends
written_minus v row ts (one_rule opened (inl e) p) = opens (mark m.MinusSign ∷ The atom ∷ Many sum_part ∷ []) (inr (inr (inl refl))) (is _ e p)
written_minus v row ts (one_rule opened (inr x) p) = elim x [ ]

written_signed : (v : Bool) (row : Row) (ts : List Sign) → FromMaybe rows minus (The atom ∷ Many sum_part ∷ row) v ts → Matches rows v (The initial ∷ row) ts
written_signed _ row _ no_part = ends
written_signed v row ts (skipped p) = written_atom v row ts (from_rule atom (Many sum_part ∷ row) v ts p)
written_signed v row ts (taken p) = written_minus v row ts (from_rule minus (The atom ∷ Many sum_part ∷ row) v ts p)

written_sum : (v : Bool) (row : Row) (ts : List Sign) → FromRule rows sum row v ts → Matches rows v (The initial ∷ row) ts
unfolding rows
written_sum _ row _ no_rule = ends
written_sum v row ts (one_rule opened (inl e) p) = written_signed v row ts (from_maybe minus (The atom ∷ Many sum_part ∷ row) v ts (is _ e p))
written_sum v row ts (one_rule opened (inr x) p) = elim x [ ]

written_val : (v : Bool) (row : Row) (ts : List Sign) → FromRule rows val row v ts → Matches rows v (The initial ∷ row) ts
unfolding rows
written_val _ row _ no_rule = ends
written_val v row ts (one_rule opened (inl e) p) = written_sum v row ts (from_rule sum row v ts (is _ e p))
written_val v row ts (one_rule opened (inr (inl e)) p) = opens (mark m.True ∷ []) (inr (inr (inr (inl refl)))) (is _ e p)
written_val v row ts (one_rule opened (inr (inr (inl e))) p) = opens (mark m.False ∷ []) (inr (inr (inr (inr (inl refl))))) (is _ e p)
written_val v row ts (one_rule opened (inr (inr (inr x))) p) = elim x [ ]

-- a name, and one alternative of what may stand behind it
cell_sign : (v : Bool) (row : Row) (ts : List Sign) → FromSign rows (k.Name ∷ []) (mark m.OpenBracket ∷ The sum ∷ mark m.CloseBracket ∷ row) v ts → Matches rows v (The initial ∷ row) ts
unfolding rows
cell_sign _ row _ no_sign = ends
cell_sign v row _ (one_sign h p) =
    opens (name ∷ Maybe initial_rest ∷ []) (inl refl) (sign h (with_it (opens (mark m.OpenBracket ∷ The sum ∷ mark m.CloseBracket ∷ []) (inl refl) p)))

written_cell : (v : Bool) (row : Row) (ts : List Sign) → FromRule rows cell row v ts → Matches rows v (The initial ∷ row) ts
unfolding rows
written_cell _ row _ no_rule = ends
written_cell v row ts (one_rule opened (inl e) p) = cell_sign v row ts (from_sign (k.Name ∷ []) (mark m.OpenBracket ∷ The sum ∷ mark m.CloseBracket ∷ row) v ts (is _ e p))
written_cell v row ts (one_rule opened (inr x) p) = elim x [ ]

of_initial : (v : Bool) (opened row : Row) (ts : List Sign) → Among opened (written initial) → Matches rows v (opened ++ row) ts → Matches rows v (The initial ∷ row) ts
unfolding written rows
of_initial v opened row ts (inl e) p = written_val v row ts (from_rule val row v ts (is _ e p))
of_initial v opened row ts (inr (inl e)) p = written_cell v row ts (from_rule cell row v ts (is _ e p))
of_initial v opened row ts (inr (inr x)) p = elim x [ ]

-- a statement that a name begins
stmt_sign : (v : Bool) (rest row : Row) (ts : List Sign) → Among rest (rows name_stmt) → FromSign rows (k.Name ∷ []) (rest ++ row) v ts → Matches rows v (The bstmt ∷ row) ts
unfolding rows
stmt_sign _ rest row _ a no_sign = ends
stmt_sign v rest row _ a (one_sign h p) = opens (name ∷ The name_stmt ∷ []) (inl refl) (sign h (opens rest a p))

of_bstmt : (v : Bool) (opened row : Row) (ts : List Sign) → Among opened (written bstmt) → Matches rows v (opened ++ row) ts → Matches rows v (The bstmt ∷ row) ts
unfolding written rows
of_bstmt v opened row ts (inl e) p =
    let rest : Row = mark m.OpenBracket ∷ The expr ∷ mark m.CloseBracket ∷ mark m.Equal ∷ The expr ∷ mark m.Semicolon ∷ [] in
    stmt_sign v rest row ts (inl refl) (from_sign (k.Name ∷ []) (rest ++ row) v ts (is _ e p))
of_bstmt v opened row ts (inr (inl e)) p = opens opened (inr (inl e)) p
of_bstmt v opened row ts (inr (inr (inl e))) p =
    let rest : Row = mark m.TildeEqual ∷ The expr ∷ mark m.Semicolon ∷ [] in
    stmt_sign v rest row ts (inr (inl refl)) (from_sign (k.Name ∷ []) (rest ++ row) v ts (is _ e p))
of_bstmt v opened row ts (inr (inr (inr a))) p = opens opened (inr (inr a)) p

-- an expression that a name begins
alone_sign : (v : Bool) (row : Row) (ts : List Sign) → FromSign rows (k.Name ∷ []) row v ts → Matches rows v (The prim ∷ row) ts
unfolding rows
alone_sign _ row _ no_sign = ends
alone_sign v row _ (one_sign h p) = opens (name ∷ Maybe name_rest ∷ []) (inr (inr (inr (inl refl)))) (sign h (without p))

prim_sign : (v : Bool) (rest row : Row) (ts : List Sign) → Among rest (rows name_rest) → FromSign rows (k.Name ∷ []) (rest ++ row) v ts → Matches rows v (The prim ∷ row) ts
unfolding rows
prim_sign _ rest row _ a no_sign = ends
prim_sign v rest row _ a (one_sign h p) = opens (name ∷ Maybe name_rest ∷ []) (inr (inr (inr (inl refl)))) (sign h (with_it (opens rest a p)))

of_prim : (v : Bool) (opened row : Row) (ts : List Sign) → Among opened (written prim) → Matches rows v (opened ++ row) ts → Matches rows v (The prim ∷ row) ts
unfolding written rows
of_prim v opened row ts (inl e) p = opens opened (inl e) p
of_prim v opened row ts (inr (inl e)) p = opens opened (inr (inl e)) p
of_prim v opened row ts (inr (inr (inl e))) p = opens opened (inr (inr (inl e))) p
of_prim v opened row ts (inr (inr (inr (inl e)))) p = alone_sign v row ts (from_sign (k.Name ∷ []) row v ts (is _ e p))
of_prim v opened row ts (inr (inr (inr (inr (inl e))))) p =
    let rest : Row = mark m.OpenParen ∷ The expr ∷ Many next_argument ∷ mark m.CloseParen ∷ [] in
    prim_sign v rest row ts (inl refl) (from_sign (k.Name ∷ []) (rest ++ row) v ts (is _ e p))
of_prim v opened row ts (inr (inr (inr (inr (inr (inl e)))))) p =
    let rest : Row = mark m.OpenBracket ∷ The expr ∷ mark m.CloseBracket ∷ [] in
    prim_sign v rest row ts (inr (inl refl)) (from_sign (k.Name ∷ []) (rest ++ row) v ts (is _ e p))
of_prim v opened row ts (inr (inr (inr (inr (inr (inr a)))))) p = opens opened (inr (inr (inr (inr a)))) p

of_written : Admits written rows
unfolding rows written Admits
of_written initial v opened row ts a p = of_initial v opened row ts a p
of_written bstmt v opened row ts a p = of_bstmt v opened row ts a p
of_written prim v opened row ts a p = of_prim v opened row ts a p
of_written _ v opened row ts a p = opens opened a p

pub same_grammar : (v : Bool) (row : Row) (ts : List Sign) → Matches rows v row ts ↔ Matches written v row ts
same_grammar v row ts = (carry rows written to_written v row ts, carry written rows of_written v row ts)
