use Rattle.vd_channel_crypto.specs.Records.{Direction}
use Rattle.vd_channel_crypto.specs.declared.records.Keys.{Keys}

abbrev pub direction : Keys → Direction
direction keys = record { cipher = keys.cipher; code = keys.code }
