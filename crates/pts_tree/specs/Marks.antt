-- The words and symbols of the language, and how they are spelled.
use Rattle.std.specs.Prelude.{ℕ, List, codes}
use Rattle.pts_tree.specs.declared.mark.Mark.{Mark}
use Rattle.pts_tree.specs.declared.mark.Mark.TheVariants as m

-- how a script spells a word or symbol
unfoldable pub text_of : Mark → List ℕ
text_of m.Pts = codes "pts"
text_of m.Const = codes "const"
text_of m.Array = codes "array"
text_of m.Function = codes "fn"
text_of m.List = codes "list"
text_of m.Fill = codes "fill"
text_of m.Iota = codes "iota"
text_of m.Step = codes "step"
text_of m.Mix = codes "mix"
text_of m.I64 = codes "i64"
text_of m.U64 = codes "u64"
text_of m.Bool = codes "bool"
text_of m.True = codes "true"
text_of m.False = codes "false"
text_of m.If = codes "if"
text_of m.Then = codes "then"
text_of m.Else = codes "else"
text_of m.Throw = codes "throw"
text_of m.Seq = codes "seq"
text_of m.Par = codes "par"
text_of m.ParUnseq = codes "par_unseq"
text_of m.Unseq = codes "unseq"
text_of m.Vector = codes "vec"
text_of m.ForEach = codes "for_each"
text_of m.Transform = codes "transform"
text_of m.FindIf = codes "find_if"
text_of m.CountIf = codes "count_if"
text_of m.Reduce = codes "reduce"
text_of m.TransformReduce = codes "transform_reduce"
text_of m.InclusiveScan = codes "inclusive_scan"
text_of m.ExclusiveScan = codes "exclusive_scan"
text_of m.TransformInclusiveScan = codes "transform_inclusive_scan"
text_of m.TransformExclusiveScan = codes "transform_exclusive_scan"
text_of m.ForLoop = codes "for_loop"
text_of m.TaskBlock = codes "task_block"
text_of m.Print = codes "print"
text_of m.Init = codes "init"
text_of m.Into = codes "into"
text_of m.To = codes "to"
text_of m.As = codes "as"
text_of m.Induct = codes "induct"
text_of m.Identity = codes "identity"
text_of m.Let = codes "let"
text_of m.VecOff = codes "vec_off"
text_of m.Ordered = codes "ordered"
text_of m.Run = codes "run"
text_of m.Wait = codes "wait"
text_of m.Plus = codes "plus"
text_of m.Multiplies = codes "multiplies"
text_of m.BitAnd = codes "bit_and"
text_of m.BitOr = codes "bit_or"
text_of m.BitXor = codes "bit_xor"
text_of m.Min = codes "min"
text_of m.Max = codes "max"
text_of m.Arrow = codes "->"
text_of m.Range = codes ".."
text_of m.TildeEqual = codes "~="
text_of m.PlusEqual = codes "+="
text_of m.MinusEqual = codes "-="
text_of m.StarEqual = codes "*="
text_of m.AmpersandEqual = codes "&="
text_of m.BarEqual = codes "|="
text_of m.CaretEqual = codes "^="
text_of m.EqualEqual = codes "=="
text_of m.ExclamationEqual = codes "!="
text_of m.LessEqual = codes "<="
text_of m.GreaterEqual = codes ">="
text_of m.AmpersandAmpersand = codes "&&"
text_of m.BarBar = codes "||"
text_of m.Semicolon = codes ";"
text_of m.Colon = codes ":"
text_of m.Comma = codes ","
text_of m.Equal = codes "="
text_of m.OpenParen = codes "("
text_of m.CloseParen = codes ")"
text_of m.OpenBracket = codes "["
text_of m.CloseBracket = codes "]"
text_of m.OpenBrace = codes "{"
text_of m.CloseBrace = codes "}"
text_of m.PlusSign = codes "+"
text_of m.MinusSign = codes "-"
text_of m.Star = codes "*"
text_of m.Slash = codes "/"
text_of m.Percent = codes "%"
text_of m.Ampersand = codes "&"
text_of m.Bar = codes "|"
text_of m.Caret = codes "^"
text_of m.Exclamation = codes "!"
text_of m.Less = codes "<"
text_of m.Greater = codes ">"

-- the place of a word or symbol in the list above
unfoldable pub place : Mark → ℕ
place m.Pts = 0
place m.Const = 1
place m.Array = 2
place m.Function = 3
place m.List = 4
place m.Fill = 5
place m.Iota = 6
place m.Step = 7
place m.Mix = 8
place m.I64 = 9
place m.U64 = 10
place m.Bool = 11
place m.True = 12
place m.False = 13
place m.If = 14
place m.Then = 15
place m.Else = 16
place m.Throw = 17
place m.Seq = 18
place m.Par = 19
place m.ParUnseq = 20
place m.Unseq = 21
place m.Vector = 22
place m.ForEach = 23
place m.Transform = 24
place m.FindIf = 25
place m.CountIf = 26
place m.Reduce = 27
place m.TransformReduce = 28
place m.InclusiveScan = 29
place m.ExclusiveScan = 30
place m.TransformInclusiveScan = 31
place m.TransformExclusiveScan = 32
place m.ForLoop = 33
place m.TaskBlock = 34
place m.Print = 35
place m.Init = 36
place m.Into = 37
place m.To = 38
place m.As = 39
place m.Induct = 40
place m.Identity = 41
place m.Let = 42
place m.VecOff = 43
place m.Ordered = 44
place m.Run = 45
place m.Wait = 46
place m.Plus = 47
place m.Multiplies = 48
place m.BitAnd = 49
place m.BitOr = 50
place m.BitXor = 51
place m.Min = 52
place m.Max = 53
place m.Arrow = 54
place m.Range = 55
place m.TildeEqual = 56
place m.PlusEqual = 57
place m.MinusEqual = 58
place m.StarEqual = 59
place m.AmpersandEqual = 60
place m.BarEqual = 61
place m.CaretEqual = 62
place m.EqualEqual = 63
place m.ExclamationEqual = 64
place m.LessEqual = 65
place m.GreaterEqual = 66
place m.AmpersandAmpersand = 67
place m.BarBar = 68
place m.Semicolon = 69
place m.Colon = 70
place m.Comma = 71
place m.Equal = 72
place m.OpenParen = 73
place m.CloseParen = 74
place m.OpenBracket = 75
place m.CloseBracket = 76
place m.OpenBrace = 77
place m.CloseBrace = 78
place m.PlusSign = 79
place m.MinusSign = 80
place m.Star = 81
place m.Slash = 82
place m.Percent = 83
place m.Ampersand = 84
place m.Bar = 85
place m.Caret = 86
place m.Exclamation = 87
place m.Less = 88
place m.Greater = 89
