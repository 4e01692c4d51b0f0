-- The grammar of scripts as data, and which lists of signs begin a part of it or are one.
use Rattle.std.specs.Prelude.{◌≡◌, ◌⊎◌, Bool, true, false, ◌==◌, List, [], ◌∷◌, ◌++◌, map}
use Rattle.std.specs.List.{list_any}
use Rattle.pts_tree.specs.declared.mark.Mark.{Mark}
use Rattle.pts_tree.specs.declared.mark.Mark.TheVariants as m
use Rattle.pts_tree.specs.declared.sign.SignKind.{SignKind}
use Rattle.pts_tree.specs.declared.sign.SignKind.TheVariants as k
use Rattle.pts_tree.specs.Marks.{place}
use Rattle.pts_tree.specs.Signs.{Sign, kind_of}

-- ---- the rules

-- the rules of the grammar; those named `next_`, `_part` and `_rest` are groups that are optional or repeated in others
pub data Rule : Type 0 where
  script item decl next_param param kind start next_val minus sum sum_part atom val : Rule
  stmt policy second_range range cell op into init_part call : Rule
  loop step_part clause identity_part initial initial_rest bstmt name_stmt else_part upd : Rule
  block tstmt rstmt : Rule
  expr or or_part and and_part cmp cmp_part bit bit_part add add_part mul mul_part una prim next_argument name_rest : Rule

-- a sign of one of these kinds, a rule, a rule or nothing, or a rule any number of times
pub data Part : Type 0 where
  One : List SignKind → Part
  The : Rule → Part
  Maybe : Rule → Part
  Many : Rule → Part

-- the parts of one alternative
abbrev pub Row : Type 0
Row = List Part

-- one of these words and symbols
abbrev pub marks : List Mark → Part
marks ms = One (map (λ n. k.Mark n) ms)

-- this word or symbol
abbrev pub mark : Mark → Part
mark n = One (k.Mark n ∷ [])

-- NAME
abbrev pub name : Part
name = One (k.Name ∷ [])

-- NUMBER
abbrev pub number : Part
number = One (k.Number ∷ k.One ∷ [])

-- NUMBER with the value 1
abbrev pub number_one : Part
number_one = One (k.One ∷ [])

-- the alternatives of each rule, such that the next sign tells which one goes on
unfoldable pub rows : Rule → List Row
rows script = (mark m.Pts ∷ number_one ∷ mark m.Semicolon ∷ Many item ∷ []) ∷ []
rows item = (The decl ∷ []) ∷ (The stmt ∷ []) ∷ []
rows decl =
    (mark m.Const ∷ name ∷ mark m.Equal ∷ The sum ∷ mark m.Semicolon ∷ [])
    ∷ (mark m.Array ∷ name ∷ mark m.Colon ∷ The kind ∷ mark m.OpenBracket ∷ The sum ∷ mark m.CloseBracket ∷ mark m.Equal ∷ The start ∷ mark m.Semicolon ∷ [])
    ∷ (mark m.Function ∷ name ∷ mark m.OpenParen ∷ The param ∷ Many next_param ∷ mark m.CloseParen ∷ mark m.Arrow ∷ The kind ∷ mark m.Equal ∷ The expr ∷ mark m.Semicolon ∷ [])
    ∷ []
rows next_param = (mark m.Comma ∷ The param ∷ []) ∷ []
rows param = (name ∷ mark m.Colon ∷ The kind ∷ []) ∷ []
rows kind = (marks (m.I64 ∷ m.U64 ∷ m.Bool ∷ []) ∷ []) ∷ []
rows start =
    (mark m.List ∷ The val ∷ Many next_val ∷ [])
    ∷ (mark m.Fill ∷ The val ∷ [])
    ∷ (mark m.Iota ∷ The sum ∷ mark m.Step ∷ The sum ∷ [])
    ∷ (mark m.Mix ∷ The sum ∷ [])
    ∷ []
rows next_val = (mark m.Comma ∷ The val ∷ []) ∷ []
rows minus = (mark m.MinusSign ∷ []) ∷ []
rows sum = (Maybe minus ∷ The atom ∷ Many sum_part ∷ []) ∷ []
rows sum_part = (marks (m.PlusSign ∷ m.MinusSign ∷ []) ∷ The atom ∷ []) ∷ []
rows atom = (number ∷ []) ∷ (name ∷ []) ∷ []
rows val = (The sum ∷ []) ∷ (mark m.True ∷ []) ∷ (mark m.False ∷ []) ∷ []
rows stmt = (The call ∷ []) ∷ (The loop ∷ []) ∷ (The block ∷ []) ∷ (mark m.Print ∷ name ∷ mark m.Semicolon ∷ []) ∷ []
rows policy = (marks (m.Seq ∷ m.Par ∷ m.ParUnseq ∷ m.Unseq ∷ m.Vector ∷ []) ∷ []) ∷ []
rows second_range = (mark m.Comma ∷ The range ∷ []) ∷ []
rows range = (name ∷ mark m.OpenBracket ∷ The sum ∷ mark m.Range ∷ The sum ∷ mark m.CloseBracket ∷ []) ∷ []
rows cell = (name ∷ mark m.OpenBracket ∷ The sum ∷ mark m.CloseBracket ∷ []) ∷ []
rows op = (marks (m.Plus ∷ m.Multiplies ∷ m.BitAnd ∷ m.BitOr ∷ m.BitXor ∷ m.Min ∷ m.Max ∷ []) ∷ []) ∷ (name ∷ []) ∷ []
rows into = (mark m.Into ∷ The cell ∷ []) ∷ []
rows init_part = (mark m.Init ∷ The val ∷ []) ∷ []
rows call =
    (mark m.ForEach ∷ The policy ∷ The range ∷ name ∷ mark m.Semicolon ∷ [])
    ∷ (mark m.Transform ∷ The policy ∷ The range ∷ Maybe second_range ∷ mark m.Arrow ∷ The range ∷ name ∷ mark m.Semicolon ∷ [])
    ∷ (marks (m.FindIf ∷ m.CountIf ∷ []) ∷ The policy ∷ The range ∷ name ∷ Maybe into ∷ mark m.Semicolon ∷ [])
    ∷ (mark m.Reduce ∷ The policy ∷ The range ∷ The init_part ∷ The op ∷ Maybe into ∷ mark m.Semicolon ∷ [])
    ∷ (mark m.TransformReduce ∷ The policy ∷ The range ∷ Maybe second_range ∷ The init_part ∷ The op ∷ name ∷ Maybe into ∷ mark m.Semicolon ∷ [])
    ∷ (mark m.InclusiveScan ∷ The policy ∷ The range ∷ mark m.Arrow ∷ The range ∷ Maybe init_part ∷ The op ∷ mark m.Semicolon ∷ [])
    ∷ (mark m.ExclusiveScan ∷ The policy ∷ The range ∷ mark m.Arrow ∷ The range ∷ The init_part ∷ The op ∷ mark m.Semicolon ∷ [])
    ∷ (mark m.TransformInclusiveScan ∷ The policy ∷ The range ∷ mark m.Arrow ∷ The range ∷ Maybe init_part ∷ The op ∷ name ∷ mark m.Semicolon ∷ [])
    ∷ (mark m.TransformExclusiveScan ∷ The policy ∷ The range ∷ mark m.Arrow ∷ The range ∷ The init_part ∷ The op ∷ name ∷ mark m.Semicolon ∷ [])
    ∷ []
rows loop =
    (mark m.ForLoop ∷ The policy ∷ name ∷ mark m.Equal ∷ The sum ∷ mark m.To ∷ The sum ∷ Maybe step_part ∷ Many clause ∷ mark m.OpenBrace ∷ Many bstmt ∷ mark m.CloseBrace ∷ []) ∷ []
rows step_part = (mark m.Step ∷ The sum ∷ []) ∷ []
rows clause =
    (mark m.Reduce ∷ The cell ∷ The op ∷ Maybe identity_part ∷ mark m.As ∷ name ∷ [])
    ∷ (mark m.Induct ∷ name ∷ mark m.Colon ∷ The kind ∷ mark m.Equal ∷ The initial ∷ Maybe step_part ∷ [])
    ∷ []
rows identity_part = (mark m.Identity ∷ The val ∷ []) ∷ []
rows initial =
    (name ∷ Maybe initial_rest ∷ [])
    ∷ (number ∷ Many sum_part ∷ [])
    ∷ (mark m.MinusSign ∷ The atom ∷ Many sum_part ∷ [])
    ∷ (mark m.True ∷ [])
    ∷ (mark m.False ∷ [])
    ∷ []
rows initial_rest = (mark m.OpenBracket ∷ The sum ∷ mark m.CloseBracket ∷ []) ∷ (The sum_part ∷ Many sum_part ∷ []) ∷ []
rows bstmt =
    (name ∷ The name_stmt ∷ [])
    ∷ (mark m.Let ∷ name ∷ mark m.Equal ∷ The expr ∷ mark m.Semicolon ∷ [])
    ∷ (mark m.If ∷ The expr ∷ mark m.OpenBrace ∷ Many bstmt ∷ mark m.CloseBrace ∷ Maybe else_part ∷ [])
    ∷ (mark m.VecOff ∷ mark m.OpenBrace ∷ Many bstmt ∷ mark m.CloseBrace ∷ [])
    ∷ (mark m.Ordered ∷ name ∷ mark m.OpenBracket ∷ The expr ∷ mark m.CloseBracket ∷ The upd ∷ The expr ∷ mark m.Semicolon ∷ [])
    ∷ []
rows name_stmt =
    (mark m.OpenBracket ∷ The expr ∷ mark m.CloseBracket ∷ mark m.Equal ∷ The expr ∷ mark m.Semicolon ∷ [])
    ∷ (mark m.TildeEqual ∷ The expr ∷ mark m.Semicolon ∷ [])
    ∷ []
rows else_part = (mark m.Else ∷ mark m.OpenBrace ∷ Many bstmt ∷ mark m.CloseBrace ∷ []) ∷ []
rows upd = (marks (m.PlusEqual ∷ m.MinusEqual ∷ m.StarEqual ∷ m.AmpersandEqual ∷ m.BarEqual ∷ m.CaretEqual ∷ []) ∷ []) ∷ []
rows block = (mark m.TaskBlock ∷ mark m.OpenBrace ∷ Many tstmt ∷ mark m.CloseBrace ∷ []) ∷ []
rows tstmt = (mark m.Run ∷ mark m.OpenBrace ∷ Many rstmt ∷ mark m.CloseBrace ∷ []) ∷ (mark m.Wait ∷ mark m.Semicolon ∷ []) ∷ (The rstmt ∷ []) ∷ []
rows rstmt =
    (mark m.Throw ∷ number ∷ mark m.Semicolon ∷ [])
    ∷ (The cell ∷ mark m.Equal ∷ The expr ∷ mark m.Semicolon ∷ [])
    ∷ (The call ∷ [])
    ∷ (The loop ∷ [])
    ∷ (The block ∷ [])
    ∷ []
rows expr = (The or ∷ []) ∷ (mark m.If ∷ The or ∷ mark m.Then ∷ The or ∷ mark m.Else ∷ The or ∷ []) ∷ []
rows or = (The and ∷ Many or_part ∷ []) ∷ []
rows or_part = (mark m.BarBar ∷ The and ∷ []) ∷ []
rows and = (The cmp ∷ Many and_part ∷ []) ∷ []
rows and_part = (mark m.AmpersandAmpersand ∷ The cmp ∷ []) ∷ []
rows cmp = (The bit ∷ Maybe cmp_part ∷ []) ∷ []
rows cmp_part = (marks (m.EqualEqual ∷ m.ExclamationEqual ∷ m.Less ∷ m.LessEqual ∷ m.Greater ∷ m.GreaterEqual ∷ []) ∷ The bit ∷ []) ∷ []
rows bit = (The add ∷ Many bit_part ∷ []) ∷ []
rows bit_part = (marks (m.Ampersand ∷ m.Bar ∷ m.Caret ∷ []) ∷ The add ∷ []) ∷ []
rows add = (The mul ∷ Many add_part ∷ []) ∷ []
rows add_part = (marks (m.PlusSign ∷ m.MinusSign ∷ []) ∷ The mul ∷ []) ∷ []
rows mul = (The una ∷ Many mul_part ∷ []) ∷ []
rows mul_part = (marks (m.Star ∷ m.Slash ∷ m.Percent ∷ []) ∷ The una ∷ []) ∷ []
rows una = (The prim ∷ []) ∷ (mark m.MinusSign ∷ The prim ∷ []) ∷ (mark m.Exclamation ∷ The prim ∷ []) ∷ []
rows prim =
    (number ∷ [])
    ∷ (mark m.True ∷ [])
    ∷ (mark m.False ∷ [])
    ∷ (name ∷ Maybe name_rest ∷ [])
    ∷ (The kind ∷ mark m.OpenParen ∷ The expr ∷ mark m.CloseParen ∷ [])
    ∷ (mark m.Throw ∷ number ∷ [])
    ∷ (mark m.OpenParen ∷ The expr ∷ mark m.CloseParen ∷ [])
    ∷ []
rows next_argument = (mark m.Comma ∷ The expr ∷ []) ∷ []
rows name_rest = (mark m.OpenParen ∷ The expr ∷ Many next_argument ∷ mark m.CloseParen ∷ []) ∷ (mark m.OpenBracket ∷ The expr ∷ mark m.CloseBracket ∷ []) ∷ []

-- the rules as they are written for a reader: two alternatives may begin alike
unfoldable pub written : Rule → List Row
written initial = (The val ∷ []) ∷ (The cell ∷ []) ∷ []
written bstmt =
    (name ∷ mark m.OpenBracket ∷ The expr ∷ mark m.CloseBracket ∷ mark m.Equal ∷ The expr ∷ mark m.Semicolon ∷ [])
    ∷ (mark m.Let ∷ name ∷ mark m.Equal ∷ The expr ∷ mark m.Semicolon ∷ [])
    ∷ (name ∷ mark m.TildeEqual ∷ The expr ∷ mark m.Semicolon ∷ [])
    ∷ (mark m.If ∷ The expr ∷ mark m.OpenBrace ∷ Many bstmt ∷ mark m.CloseBrace ∷ Maybe else_part ∷ [])
    ∷ (mark m.VecOff ∷ mark m.OpenBrace ∷ Many bstmt ∷ mark m.CloseBrace ∷ [])
    ∷ (mark m.Ordered ∷ name ∷ mark m.OpenBracket ∷ The expr ∷ mark m.CloseBracket ∷ The upd ∷ The expr ∷ mark m.Semicolon ∷ [])
    ∷ []
written prim =
    (number ∷ [])
    ∷ (mark m.True ∷ [])
    ∷ (mark m.False ∷ [])
    ∷ (name ∷ [])
    ∷ (name ∷ mark m.OpenParen ∷ The expr ∷ Many next_argument ∷ mark m.CloseParen ∷ [])
    ∷ (name ∷ mark m.OpenBracket ∷ The expr ∷ mark m.CloseBracket ∷ [])
    ∷ (The kind ∷ mark m.OpenParen ∷ The expr ∷ mark m.CloseParen ∷ [])
    ∷ (mark m.Throw ∷ number ∷ [])
    ∷ (mark m.OpenParen ∷ The expr ∷ mark m.CloseParen ∷ [])
    ∷ []
written r = rows r

-- ---- which signs begin a part, and which are the whole of it

-- two kinds are one
abbrev pub same : SignKind → SignKind → Bool
same (k.Mark a) (k.Mark b) = place a == place b
same k.Name k.Name = true
same k.Number k.Number = true
same k.One k.One = true
same k.End k.End = true
same _ _ = false

-- a kind is one of these
abbrev pub has : List SignKind → SignKind → Bool
has ks x = list_any (λ y. same y x) ks

-- a row is one of these
abbrev pub Among : Row → List Row → Type 0
Among row [] = ⊥
Among row (first ∷ rest) = (row ≡ first) ⊎ Among row rest

-- with true, the signs are whole spellings of all parts of the row under these rules; with false, they begin the row
pub data Matches (rules : Rule → List Row) : Bool → Row → List Sign → Type 0 where
  whole : Matches rules true [] []
  ends : {row : Row} → Matches rules false row []
  sign : {v : Bool} {ks : List SignKind} {row : Row} {t : Sign} {ts : List Sign} → has ks (kind_of t) ≡ true → Matches rules v row ts → Matches rules v (One ks ∷ row) (t ∷ ts)
  opens : {v : Bool} {r : Rule} {row : Row} {ts : List Sign} (opened : Row) → Among opened (rules r) → Matches rules v (opened ++ row) ts → Matches rules v (The r ∷ row) ts
  without : {v : Bool} {r : Rule} {row : Row} {ts : List Sign} → Matches rules v row ts → Matches rules v (Maybe r ∷ row) ts
  with_it : {v : Bool} {r : Rule} {row : Row} {ts : List Sign} → Matches rules v (The r ∷ row) ts → Matches rules v (Maybe r ∷ row) ts
  no_more : {v : Bool} {r : Rule} {row : Row} {ts : List Sign} → Matches rules v row ts → Matches rules v (Many r ∷ row) ts
  one_more : {v : Bool} {r : Rule} {row : Row} {ts : List Sign} → Matches rules v (The r ∷ Many r ∷ row) ts → Matches rules v (Many r ∷ row) ts

-- the signs begin this part
abbrev pub Begins : Part → List Sign → Type 0
Begins part ts = Matches rows false (part ∷ []) ts

-- the signs are one spelling of this part
abbrev pub IsPhrase : Part → List Sign → Type 0
IsPhrase part ts = Matches rows true (part ∷ []) ts

-- the signs begin a script
abbrev pub IsViable : List Sign → Type 0
IsViable ts = Begins (The script) ts
