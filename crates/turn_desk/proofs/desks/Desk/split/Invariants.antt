use Rattle.turn_desk.proofs.desks.Desk.split.Given as goal

abbrev pub ghosts-cut : goal.ghosts-cut
ghosts-cut g a = record { amount = a.asks }
