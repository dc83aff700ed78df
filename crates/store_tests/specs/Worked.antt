-- A worked row of an index.
use Rattle.std.specs.Prelude.{codes}
use Rattle.store_model.specs.declared.signature.EquivRow.{EquivRow}
use Rattle.store_model.specs.Hello.{hello_manifest, hello_name}

abbrev pub one_row : EquivRow
one_row = record { name = hello_name; pn = codes "hello"; task = codes "do_build"; sig = codes "sig"; manifest = hello_manifest; unihash = hello_name }
