-- Two words or symbols are compared by their places.
use Rattle.std.proofs.Common.{◌≡◌, eqb, refl, ap, ◌∙◌}
use denote.Enum.Bare.{sameb}
use denote.Enum.Declared.{tag_of}
use Rattle.pts_tree.specs.contracts.mark.Mark.{the_type}
use Rattle.pts_tree.specs.declared.mark.Mark.{Mark}
use Rattle.pts_tree.specs.declared.mark.Mark.TheVariants as m
use Rattle.pts_tree.specs.Marks.{place}

tag_is_place : (x : Mark) → tag_of the_type x ≡ place x
unfolding place
tag_is_place m.Pts = refl
tag_is_place m.Const = refl
tag_is_place m.Array = refl
tag_is_place m.Function = refl
tag_is_place m.List = refl
tag_is_place m.Fill = refl
tag_is_place m.Iota = refl
tag_is_place m.Step = refl
tag_is_place m.Mix = refl
tag_is_place m.I64 = refl
tag_is_place m.U64 = refl
tag_is_place m.Bool = refl
tag_is_place m.True = refl
tag_is_place m.False = refl
tag_is_place m.If = refl
tag_is_place m.Then = refl
tag_is_place m.Else = refl
tag_is_place m.Throw = refl
tag_is_place m.Seq = refl
tag_is_place m.Par = refl
tag_is_place m.ParUnseq = refl
tag_is_place m.Unseq = refl
tag_is_place m.Vector = refl
tag_is_place m.ForEach = refl
tag_is_place m.Transform = refl
tag_is_place m.FindIf = refl
tag_is_place m.CountIf = refl
tag_is_place m.Reduce = refl
tag_is_place m.TransformReduce = refl
tag_is_place m.InclusiveScan = refl
tag_is_place m.ExclusiveScan = refl
tag_is_place m.TransformInclusiveScan = refl
tag_is_place m.TransformExclusiveScan = refl
tag_is_place m.ForLoop = refl
tag_is_place m.TaskBlock = refl
tag_is_place m.Print = refl
tag_is_place m.Init = refl
tag_is_place m.Into = refl
tag_is_place m.To = refl
tag_is_place m.As = refl
tag_is_place m.Induct = refl
tag_is_place m.Identity = refl
tag_is_place m.Let = refl
tag_is_place m.VecOff = refl
tag_is_place m.Ordered = refl
tag_is_place m.Run = refl
tag_is_place m.Wait = refl
tag_is_place m.Plus = refl
tag_is_place m.Multiplies = refl
tag_is_place m.BitAnd = refl
tag_is_place m.BitOr = refl
tag_is_place m.BitXor = refl
tag_is_place m.Min = refl
tag_is_place m.Max = refl
tag_is_place m.Arrow = refl
tag_is_place m.Range = refl
tag_is_place m.TildeEqual = refl
tag_is_place m.PlusEqual = refl
tag_is_place m.MinusEqual = refl
tag_is_place m.StarEqual = refl
tag_is_place m.AmpersandEqual = refl
tag_is_place m.BarEqual = refl
tag_is_place m.CaretEqual = refl
tag_is_place m.EqualEqual = refl
tag_is_place m.ExclamationEqual = refl
tag_is_place m.LessEqual = refl
tag_is_place m.GreaterEqual = refl
tag_is_place m.AmpersandAmpersand = refl
tag_is_place m.BarBar = refl
tag_is_place m.Semicolon = refl
tag_is_place m.Colon = refl
tag_is_place m.Comma = refl
tag_is_place m.Equal = refl
tag_is_place m.OpenParen = refl
tag_is_place m.CloseParen = refl
tag_is_place m.OpenBracket = refl
tag_is_place m.CloseBracket = refl
tag_is_place m.OpenBrace = refl
tag_is_place m.CloseBrace = refl
tag_is_place m.PlusSign = refl
tag_is_place m.MinusSign = refl
tag_is_place m.Star = refl
tag_is_place m.Slash = refl
tag_is_place m.Percent = refl
tag_is_place m.Ampersand = refl
tag_is_place m.Bar = refl
tag_is_place m.Caret = refl
tag_is_place m.Exclamation = refl
tag_is_place m.Less = refl
tag_is_place m.Greater = refl

pub same_marks : (x y : Mark) → sameb the_type x y ≡ eqb (place x) (place y)
same_marks x y = ap (λ n. eqb n (tag_of the_type y)) (tag_is_place x) ∙ ap (λ n. eqb (place x) n) (tag_is_place y)
