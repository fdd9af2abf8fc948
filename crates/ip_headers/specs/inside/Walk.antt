-- What the functions that go over a list of options say of their parts.
use Rattle.std.specs.Prelude.{◌≡◌, ℕ, List, filter, slice_get, if◌then◌else◌}
use Rattle.std.specs.Option.{option_map}
use Rattle.ip_headers.specs.declared.version.Version.{Version}
use Rattle.ip_headers.specs.declared.options.Step.{Step}
use Rattle.ip_headers.specs.declared.options.Step.TheVariants.{End, Option, Broken}
use Rattle.ip_headers.specs.declared.options.Found.{Found}
use Rattle.ip_headers.specs.Options.{Placed, announced, ends_list, is_whole, is_jumbo, labels_of, others_of, has_any}

-- what stands at the front of these octets
abbrev pub step_of : Version → List ℕ → Step
step_of version octets = if ends_list version octets then End else (if is_whole version octets then Option (announced version octets) else Broken)

-- what was found in these options
pub record Finds (version : Version) (options : List Placed) (found : Found) : Type 0 where
  pub label : option_map (λ x. record { place = x.0; octets = x.1.now }) found.label ≡ slice_get (labels_of version options) 0
  pub second : found.second ≡ option_map (λ o. o.place) (slice_get (labels_of version options) 1)
  pub jumbo : found.jumbo ≡ option_map (λ o. o.place) (slice_get (filter (is_jumbo version) options) 0)
  pub others : found.has_others ≡ has_any (others_of version options)
