-- What the text of `--as` says: the form of an input.
use Rattle.std.specs.Prelude.{List, [], ◌∷◌, Option, Some, None, codes}
use Rattle.std.specs.Map.{lookup}
use Rattle.std.specs.Str.{bytes_eq}
use Rattle.clap.specs.Words.{Text}
use Rattle.tlv_text.specs.declared.block.Form.TheVariants as form
use Rattle.tlv_view_program.specs.declared.request.InputForm.{InputForm}
use Rattle.tlv_view_program.specs.declared.request.InputForm.TheVariants as input

-- the values of `--as`, with what each says of an input
abbrev pub named_forms : List (Text × InputForm)
named_forms =
    (codes "octets", input.Octets)
    ∷ (codes "ber", input.Octets)
    ∷ (codes "der", input.Octets)
    ∷ (codes "cer", input.Octets)
    ∷ (codes "pem", input.Text form.Pem)
    ∷ (codes "dump", input.Text form.Dump)
    ∷ (codes "hex", input.Text form.Hex)
    ∷ (codes "numbers", input.Text form.Numbers)
    ∷ (codes "base64", input.Text form.Base64)
    ∷ (codes "runs", input.Text form.Runs)
    ∷ []

-- `--as`: one of these; without it, the octets of the input decide. The result `None` means that the text is not valid
abbrev pub form_value : Option Text → Option InputForm
form_value None = Some input.Any
form_value (Some text) = lookup (bytes_eq text) named_forms
