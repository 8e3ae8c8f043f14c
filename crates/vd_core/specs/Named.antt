-- Names in a source that was read from a text.
use Rattle.std.specs.Prelude.{◌<◌, length}
use Rattle.std.specs.List.{AllPass}
use Rattle.vd_base.specs.Lexical.{is_name}
use Rattle.vd_core.specs.declared.source.Source.{Source}

-- The principals and the hosts have names, and there is at least one of each.
pub record HasNames (source : Source) : Type 0 where
  pub principals : AllPass (λ principal. is_name principal.name) source.principals
  pub hosts : AllPass (λ host. is_name host.name.name) source.hosts
  pub some_principal : 0 < length source.principals
  pub some_host : 0 < length source.hosts
