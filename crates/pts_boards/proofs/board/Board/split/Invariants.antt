use Rattle.pts_boards.proofs.board.Board.split.Given as goal

abbrev pub ghosts-cut : goal.ghosts-cut
ghosts-cut g a = record { amount = a.weight }
