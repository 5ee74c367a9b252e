use Rattle.serving.proofs.frames.+send_pieces.Given as goal

-- the full frames that are left
abbrev pub decreases-send_pieces : goal.decreases-send_pieces
decreases-send_pieces g l = l.full
