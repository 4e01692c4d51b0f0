use Rattle.pts_boards.proofs.Rule.{opens}
use Rattle.pts_boards.proofs.board.Board.make.Goals as goal

pub of_words-requires : goal.of_words-requires
of_words-requires g c = opens g.K.Knowledge.sort g.K.Knowledge.lawful c.args.terms c.args.word c.requires.agrees
