-- The exported answers as those of the entries.
use Rattle.theory_record.specs.Query.{Answer}
use Rattle.theory_record.specs.Profiles as paper
use Rattle.theory_compare.specs.Compare.{Comparison}
use Rattle.std.specs.Prelude.{ℕ, List}
use Rattle.field_blocks.specs.Block.{block}
use Rattle.hash_hasher.specs.Whole as whole
use Rattle.code_codeword.specs.Answers as code
use Rattle.code_level.specs.Domain as level
use Rattle.export_dequmlo.specs.declared.blocks.Hashed.{Hashed}
use Rattle.export_dequmlo.specs.declared.hashing.Digested.{Digested}
use Rattle.export_dequmlo.specs.declared.coding.Folded.{Folded}
use Rattle.export_dequmlo.specs.declared.trees.DomainLength.{DomainLength}
use Rattle.export_dequmlo.specs.declared.records.Checked.{Checked}
use Rattle.export_dequmlo.specs.declared.records.Compared.{Compared}
use Rattle.export_dequmlo.specs.declared.parameters.Parameters.{Parameters}

abbrev pub hashed : Hashed → ℕ × List ℕ
hashed r = (r.number, block r.block)

abbrev pub digested : Digested → whole.Digested
digested r = record { number = r.number; bytes = r.bytes }

abbrev pub folded : Folded → code.Folded
folded r = record { number = r.number; n = r.n }

abbrev pub domain_length : DomainLength → level.DomainLength
domain_length r = record { number = r.number; length = r.length }

abbrev pub checked : Checked → Answer
checked r = record { number = r.number; level = r.level }

abbrev pub compared : Compared → Comparison
compared r = record { number = r.number; first = r.first; second = r.second }

abbrev pub parameters : Parameters → paper.Fields
parameters r = record { k = r.k; queries = r.queries; domain = r.domain; size = r.length }
