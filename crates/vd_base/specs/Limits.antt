-- The limits of the product. Each is the greatest number that is allowed.
use Rattle.std.specs.Prelude.{ℕ, ◌+◌, ◌*◌, ◌≤◌}

-- bytes of a source
abbrev pub most_source_bytes : ℕ
most_source_bytes = 65536

-- brackets of all kinds that are open at once in a source
abbrev pub most_open_brackets : ℕ
most_open_brackets = 64

-- hosts of a source, which has at least one
abbrev pub most_hosts : ℕ
most_hosts = 4

-- principals of a source, which has at least one
abbrev pub most_principals : ℕ
most_principals = 6

-- statements of a let-normal program, with one more for each inlined call
abbrev pub most_statements : ℕ
most_statements = 512

-- loops around one statement of a let-normal program
abbrev pub most_nesting : ℕ
most_nesting = 8

-- the sum of the weights of all statements: how often each is executed
abbrev pub most_weights : ℕ
most_weights = 65536

-- cells of all arrays together
abbrev pub most_cells : ℕ
most_cells = 65536

-- input words of one host
abbrev pub most_input_words : ℕ
most_input_words = 65536

-- bytes of an inputs file
abbrev pub most_inputs_bytes : ℕ
most_inputs_bytes = 4194304

-- bytes of a schedule file
abbrev pub most_schedule_bytes : ℕ
most_schedule_bytes = 16777216

-- entries of a schedule file
abbrev pub most_schedule_entries : ℕ
most_schedule_entries = 1048576

-- bytes of a certificate file
abbrev pub most_certificate_bytes : ℕ
most_certificate_bytes = 16777216

-- cost shifts of a certificate
abbrev pub most_certificate_shifts : ℕ
most_certificate_shifts = 131072

-- prefixes that a search opens; also the budget of a search for which none is given
abbrev pub most_search_budget : ℕ
most_search_budget = 200000

-- bytes of a deal file
abbrev pub most_deal_bytes : ℕ
most_deal_bytes = 335544320

-- items of one kind that a deal has for one peer, and own words of one host
abbrev pub most_deal_items : ℕ
most_deal_items = 1048576

-- bytes of a host program's file
abbrev pub most_host_file_bytes : ℕ
most_host_file_bytes = 67108864

-- words of a packet, which has at least one
abbrev pub most_packet_words : ℕ
most_packet_words = 16

-- blocks of host code that are open at once
abbrev pub most_open_blocks : ℕ
most_open_blocks = 512

-- registers of one host
abbrev pub most_registers : ℕ
most_registers = 2097152

-- Files that have no more than they may have by count fit by their bytes. A word takes 11 bytes: ten digits, and what stands before them.
-- A schedule has room for four steps of each host for each executed statement, and for names of 15 letters.
pub record LimitsFit : Type 0 where
  pub inputs : most_hosts * (11 * most_input_words) + most_source_bytes ≤ most_inputs_bytes
  pub steps : 4 * most_hosts * most_weights ≤ most_schedule_entries
  pub schedules : 16 * most_schedule_entries ≤ most_schedule_bytes
