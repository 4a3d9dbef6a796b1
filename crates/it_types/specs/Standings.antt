-- Where the code's reader of a call stands.
use Rattle.it_types.specs.declared.line.Line.{Line}
use Rattle.it_types.specs.Fields.{Standing}

abbrev pub standing : Line → Standing
standing l = record { limit = l.limit; fits = l.fits; rest = l.rest.now }
