use Rattle.std.proofs.Common.{inl, refl}
use Rattle.vd_edge.specs.KeptFiles.{kept_view}
use Rattle.viaduct.proofs.program.run_over.Goals as goal

pub returns-in-Ok : goal.returns-in-Ok
returns-in-Ok g c = inl (record {
  read = kept_view g.D.Directory.tells (g.D.Directory.began c.in-Ok.files.files.directory) c.in-Ok.files.kept c.in-Ok.files.asked c.in-Ok.files.stores.pairs c.in-Ok.files.faults;
  last = kept_view g.D.Directory.tells (g.D.Directory.began c.start_over-status.new.outside.files.files.directory) c.start_over-status.new.outside.files.kept c.start_over-status.new.outside.files.asked c.start_over-status.new.outside.files.stores.pairs c.start_over-status.new.outside.files.faults;
  faults = (c.args.outside.files.faults, c.in-Ok.files.files.faults);
  ahead = c.in-Ok.ensures.read;
  run = c.start_over-status.ensures;
  disk = λ tells. record {
    stores = c.start_over-status.new.outside.files.stores.pairs;
    asked = c.start_over-status.new.outside.files.known;
    whole = c.start_over-status.new.outside.files.whole tells;
    alone = c.start_over-status.new.outside.files.alone tells;
  };
  is_left = refl;
})
