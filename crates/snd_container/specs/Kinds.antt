-- The container of each kind.
use Rattle.snd_fields.specs.declared.field.Order.TheVariants.{Little, Big}
use Rattle.snd_layout.specs.Container.{Container}
use Rattle.snd_layout.specs.declared.kind.Kind.{Kind}
use Rattle.snd_layout.specs.declared.kind.Kind.TheVariants.{Wave, Rf64, W64, Au, Dns, Voc, Svx, Sphere}
use Rattle.snd_au.specs.Container.{au}
use Rattle.snd_rf64.specs.Container.{rf64}
use Rattle.snd_sphere.specs.Container.{sphere}
use Rattle.snd_svx.specs.Container.{svx}
use Rattle.snd_voc.specs.Container.{voc}
use Rattle.snd_w64.specs.Container.{w64}
use Rattle.snd_wave.specs.Container.{wave}

abbrev pub container_of : Kind → Container
container_of Wave = wave
container_of Rf64 = rf64
container_of W64 = w64
container_of Au = au Big
container_of Dns = au Little
container_of Voc = voc
container_of Svx = svx
container_of Sphere = sphere
