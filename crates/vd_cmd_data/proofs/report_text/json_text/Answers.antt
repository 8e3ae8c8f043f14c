use Rattle.std.proofs.Common.{ap, ◌∙◌, ◌++◌, ◌∷◌, []}
use Rattle.serde_json.specs.View.{view}
use Rattle.vd_cmd_data.proofs.NoFloats.{line_is}
use Rattle.vd_cmd_data.proofs.report_text.json_text.Goals as goal

pub returns : goal.returns
returns c =
    (c.in_ok-push.ensures {u = tt}).ok
    ∙ ap (λ t. t ++ 10 ∷ []) (c.in_ok-line.ensures ∙ c.as_bytes.ensures.value)
    ∙ line_is c.args.host.now c.args.readings.now (view c.in_ok-value.value) c.in_ok-text.text.bytes.items c.in_ok-value.ensures c.in_ok-text.ensures.text
