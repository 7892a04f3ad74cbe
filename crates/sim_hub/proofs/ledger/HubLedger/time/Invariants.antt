use Rattle.sim_hub.proofs.ledger.HubLedger.time.Given as goal

-- the counter's own number
abbrev pub ghosts-act : goal.ghosts-act
ghosts-act a = record { name = a.blank.name; parts = a.blank.parts }
