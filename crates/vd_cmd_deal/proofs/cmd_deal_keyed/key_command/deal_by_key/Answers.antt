use Rattle.vd_cmd_deal.proofs.cmd_deal_keyed.key_command.deal_by_key.Goals as goal

pub make_by_key-requires : goal.make_by_key-requires
make_by_key-requires c = record { hosts = c.requires.hosts; own = c.requires.own; muls = c.requires.muls; ands = c.requires.ands; pairs = c.requires.pairs }
