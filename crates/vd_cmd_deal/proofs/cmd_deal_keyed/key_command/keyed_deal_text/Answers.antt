use Rattle.std.proofs.Common.{◌≡◌, IfOk, subst}
use Rattle.vd_channel_crypto.specs.declared.deal_keys.secrets.Secrets.{Secrets}
use Rattle.vd_deal_versions.specs.Text.{secret_of, secret_text}
use Rattle.vd_cmd_deal.proofs.cmd_deal_keyed.key_command.keyed_deal_text.Goals as goal

pub returns : goal.returns
returns c =
    subst (λ (secrets : Secrets). IfOk c.write_secret.result (λ text. text ≡ secret_text (secret_of c.args.deal.now secrets)))
    c.in_ok-secrets.ensures c.write_secret.ensures
