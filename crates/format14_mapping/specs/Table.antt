-- Inner: what a non-default table gives with the lists that are lent with it; no promise names it.
use Rattle.std.specs.Prelude.{ℕ, List, Bool}
use Rattle.laws.specs.Lists.{Pair}
use Rattle.laws.specs.Select.{flat}
use Rattle.format14_uvs.specs.NonDefault.{kept_mappings, mapping_bytes, new_non_default, bad_mapping}
use Rattle.format14_mapping.specs.declared.NonDefaultTable.{NonDefaultTable}

abbrev pub table_kept : NonDefaultTable → List Pair
table_kept t = kept_mappings t.source.now t.at t.kept.now t.requested.now

-- the bytes of its mappings that stay
abbrev pub table_rows : NonDefaultTable → List ℕ
table_rows t = flat (mapping_bytes t.map.now) (table_kept t)

abbrev pub table_new : NonDefaultTable → List ℕ
table_new t = new_non_default t.source.now t.at t.kept.now t.map.now t.requested.now

abbrev pub table_bad : NonDefaultTable → Bool
table_bad t = bad_mapping t.source.now t.at t.kept.now t.map.now t.requested.now
